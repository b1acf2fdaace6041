pub mod Begins
pub mod Faults
pub mod Front
pub mod Turns
