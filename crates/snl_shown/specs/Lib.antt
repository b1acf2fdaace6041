pub mod Found
pub mod Marks
pub mod References
pub mod Shown
pub mod Sources
pub mod Spans
pub mod Symbols
