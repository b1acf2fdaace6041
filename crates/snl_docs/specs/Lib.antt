pub mod Asked
pub mod Known
pub mod Served
