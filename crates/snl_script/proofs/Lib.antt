pub mod GrowingLemmas
pub mod SaidLemmas
pub mod ScriptLemmas
pub mod SpelledLemmas
