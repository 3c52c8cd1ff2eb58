pub mod Found
pub mod Spots
pub mod Parts
pub mod Scopes
