pub mod Lists
pub mod Shown
pub mod Texts
