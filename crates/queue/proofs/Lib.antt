pub mod Heaps
pub mod Counting
pub mod Ends
mod Levels
mod Runs
