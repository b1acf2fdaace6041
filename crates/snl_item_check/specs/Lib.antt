pub mod Items
pub mod Options
pub mod View
pub mod ItemFaults
pub mod SeenNames
pub mod Told
pub mod FaultCodes
