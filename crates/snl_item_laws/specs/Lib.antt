pub mod Mentions
pub mod Brackets
pub mod Cuts
