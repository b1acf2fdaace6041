pub mod Items
pub mod Fresh
pub mod Changes
pub mod OwnTokens
pub mod Places
pub mod Reaches
pub mod TokenForms
