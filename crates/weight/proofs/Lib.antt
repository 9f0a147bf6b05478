pub mod Worths
pub mod Ranges
pub mod Places
mod Texts
