pub mod Escaping
pub mod Putting
pub mod Rows
pub mod Numbers
pub mod Marks
pub mod Whole
