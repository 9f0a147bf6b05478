pub mod Heap
pub mod Counts
pub mod Calls
pub mod Runs
