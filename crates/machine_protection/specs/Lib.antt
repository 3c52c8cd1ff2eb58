pub mod Regions
pub mod Protection
pub mod Registers
pub mod RegionWords
pub mod Laws
pub mod Configured
