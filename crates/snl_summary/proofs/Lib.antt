pub mod SomeTokens
pub mod NamedTokens
pub mod Firsts
pub mod AlikeTokens
pub mod SpelledAlike
