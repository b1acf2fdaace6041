pub mod ColumnLemmas
pub mod ExcerptLemmas
pub mod LeadingBack
pub mod SafeLemmas
pub mod ShownLemmas
