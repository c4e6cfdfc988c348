pub mod Limits
pub mod Memory
pub mod Moves
pub mod Call
pub mod Exactly
