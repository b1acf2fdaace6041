pub mod LineEnds
pub mod Walks
pub mod ByLines
pub mod CommonEnds
pub mod EditedEnds
pub mod Rising
pub mod Characters
pub mod Ended
