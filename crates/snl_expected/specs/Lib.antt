pub mod Expected
pub mod Groups
pub mod Kinds
pub mod DescriptionLaws
