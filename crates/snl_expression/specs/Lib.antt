pub mod Elements
pub mod Nests
pub mod Operands
pub mod Reads
pub mod Tiers
pub mod TurnLaws
