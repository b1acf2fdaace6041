pub mod Views
pub mod SameMeanings
