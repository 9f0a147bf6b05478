pub mod Rankings
pub mod Files
pub mod Steps
