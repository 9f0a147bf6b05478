pub mod Cells
pub mod Accounts
pub mod Steps
pub mod Slots
pub mod Kept
pub mod Words
