mod Parts
mod Fronts
mod Texts
