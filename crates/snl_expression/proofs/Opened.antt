pub mod Types
pub mod Expressions
