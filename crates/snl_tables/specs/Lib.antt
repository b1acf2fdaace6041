pub mod Marks
pub mod WakeSets
pub mod Shifted
pub mod ShiftedLaws
pub mod Moved
