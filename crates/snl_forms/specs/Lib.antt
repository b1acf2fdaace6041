pub mod Escapes
pub mod Forms
