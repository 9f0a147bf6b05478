pub mod Faults
pub mod Frame
pub mod Kinds
pub mod Formats
pub mod Records
pub mod Reading
