pub mod Inputs
pub mod Outcomes
