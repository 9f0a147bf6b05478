mod Draws
mod Settled
