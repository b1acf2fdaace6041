pub mod RequestLemmas
pub mod RunLemmas
