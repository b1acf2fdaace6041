pub mod Columns
pub mod Excerpts
pub mod Glyphs
pub mod Gutters
pub mod Lines
pub mod Safe
pub mod Windows
