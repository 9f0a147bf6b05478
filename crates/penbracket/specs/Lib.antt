pub mod Drawing
pub mod Texts
