pub mod OwnFaults
pub mod Places
pub mod KeptItems
pub mod Settings
