pub mod Sum
pub mod Search
pub mod Bounds
pub mod Heads
