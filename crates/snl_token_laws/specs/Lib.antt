pub mod Fronts
pub mod Written
pub mod Unmarked
pub mod Recuts
pub mod Numbers
pub mod Markers
