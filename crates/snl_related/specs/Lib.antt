pub mod Near
pub mod Related
