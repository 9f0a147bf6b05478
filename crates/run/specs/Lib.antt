pub mod Law
pub mod Loans
pub mod Steps
pub mod Files
pub mod Alike
