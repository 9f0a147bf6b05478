pub mod Reading
pub mod Spaced
