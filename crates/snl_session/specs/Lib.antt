pub mod Edit
pub mod Held
pub mod Listing
