pub mod Ends
pub mod Order
pub mod Places
pub mod Merges
pub mod Books
