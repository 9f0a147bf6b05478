pub mod Worth
pub mod Range
pub mod Text
pub mod Numbers
pub mod Layers
pub mod Stops
