pub mod Keyed
pub mod Moves
