pub mod Lines
pub mod Inputs
pub mod Answers
pub mod Ends
