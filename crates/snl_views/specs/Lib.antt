pub mod SameView
pub mod SameMeanings
