pub mod Lines
pub mod Files
