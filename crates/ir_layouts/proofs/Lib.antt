mod Cases
pub mod SmallStructs
pub mod Places
pub mod Sizes
mod Entries
pub mod Capped
mod Opened
