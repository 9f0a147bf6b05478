mod Steps
mod Fills
mod Held
mod Lasts
mod Numbered
