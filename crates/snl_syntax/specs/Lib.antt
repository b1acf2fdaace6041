pub mod Answered
pub mod NestsStatement
pub mod Recognized
