pub mod Edits
pub mod Moved
pub mod Same
pub mod Undone
