pub mod Keys
pub mod Parts
pub mod Storing
pub mod Setting
