pub mod Notes
pub mod NoteLaws
pub mod Near
pub mod Words
