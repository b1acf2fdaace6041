pub mod Quiet
pub mod Unreached
pub mod WakeSets
pub mod Spans
pub mod Shifted
pub mod ShiftedAround
pub mod Moved
