pub mod Arcs
pub mod Family
pub mod State
pub mod Ring
pub mod Opening
pub mod Answer
pub mod Space
pub mod Choice
