pub mod Blamed
pub mod Levels
pub mod Opened
pub mod ParserAnswers
pub mod Recognized
