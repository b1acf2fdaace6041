pub mod Answered
pub mod Asked
pub mod ByText
pub mod Elsewhere
pub mod Known
