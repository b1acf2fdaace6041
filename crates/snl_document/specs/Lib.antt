pub mod Documents
pub mod Held
pub mod Notices
pub mod Says
pub mod Splices
pub mod Texts
pub mod Told
