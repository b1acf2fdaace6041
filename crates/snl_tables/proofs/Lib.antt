pub mod Marking
pub mod WakeLemmas
pub mod Changing
