mod Turns
mod Runs
mod Files
mod Truly
mod Alike
