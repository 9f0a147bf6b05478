pub mod Parting
pub mod Counts
pub mod Accounting
pub mod Slotted
pub mod Keeping
pub mod Worded
