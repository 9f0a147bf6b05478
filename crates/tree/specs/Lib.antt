pub mod Chains
pub mod Trees
pub mod Brackets
