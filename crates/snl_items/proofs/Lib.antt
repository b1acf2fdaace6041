pub mod Parts
pub mod Counts
pub mod Listed
pub mod Alike
pub mod TokenParts
pub mod TokenPlaces
pub mod EndPlaces
pub mod ItemParts
pub mod OwnParts
mod ShiftedTokens
mod InFront
pub mod OpenedItems
pub mod Places
mod NewPieces
