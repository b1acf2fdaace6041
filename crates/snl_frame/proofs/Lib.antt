pub mod Growing
pub mod Lines
pub mod ReadBack
pub mod Waiting
