pub mod Meant
pub mod Outlined
