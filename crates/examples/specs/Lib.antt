pub mod Lines
pub mod Worked
