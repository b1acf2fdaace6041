pub mod SourceLemmas
pub mod TakenLemmas
