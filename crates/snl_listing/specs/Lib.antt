pub mod Sink
pub mod Escapes
pub mod Parts
pub mod Listing
pub mod Lister
pub mod Kept
