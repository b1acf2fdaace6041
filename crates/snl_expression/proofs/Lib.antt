pub mod Bare
pub mod Opened
pub mod Tiers
