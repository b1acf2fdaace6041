pub mod Lines
pub mod Flags
pub mod Channels
pub mod Clauses
pub mod Order
