pub mod Values
pub mod Storages
pub mod Parts
pub mod Seen
pub mod Windows
