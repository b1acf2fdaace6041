pub mod Keys
pub mod NameBook
pub mod Prints
pub mod Spellings
