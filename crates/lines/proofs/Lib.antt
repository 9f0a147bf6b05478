mod Parts
mod Spacing
mod Pieces
mod Tabs
pub mod Lengths
