pub mod AnswerLemmas
pub mod DocumentLemmas
pub mod ListingLemmas
pub mod RunLemmas
pub mod SaidLemmas
