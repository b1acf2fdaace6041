pub mod Framed
pub mod Losing
pub mod Named
