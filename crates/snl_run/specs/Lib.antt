pub mod Answers
pub mod Faults
pub mod OverFile
pub mod Paged
pub mod PagedLaws
pub mod Run
pub mod Transcript
pub mod Version
