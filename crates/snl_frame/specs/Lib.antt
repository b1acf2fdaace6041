pub mod Frame
pub mod Framed
pub mod Front
