pub mod Alike
pub mod Later
pub mod Rising
pub mod Steps
pub mod Stops
pub mod Tokens
pub mod Undone
