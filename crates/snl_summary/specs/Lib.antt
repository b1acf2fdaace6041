pub mod HeldNames
pub mod Summaries
pub mod RisingTokens
pub mod NamedTokens
pub mod SpelledTokens
pub mod LeafLaws
pub mod MentionedLaws
