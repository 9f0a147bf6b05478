pub mod Words
pub mod Orders
pub mod Texts
pub mod Script
pub mod Reading
