pub mod Types
pub mod Expressions
pub mod Declarations
pub mod Clauses
pub mod Statements
pub mod Functions
pub mod States
pub mod Items
