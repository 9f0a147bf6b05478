pub mod Chains
mod Depths
mod Lines
mod Rests
mod Texts
mod Walks
