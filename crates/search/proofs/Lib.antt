mod Counts
mod Scan
mod Records
mod Families
mod Stages
mod Rings
mod Raised
mod Joining
mod Limits
mod Steps
mod Openings
mod Heads
mod Begins
mod Finds
mod Barring
pub mod Choosing
pub mod Found
