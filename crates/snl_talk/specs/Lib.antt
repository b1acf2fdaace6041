pub mod Run
pub mod Talks
pub mod Transcript
