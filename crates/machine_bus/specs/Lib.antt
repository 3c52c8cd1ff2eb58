pub mod Locations
pub mod Bus
pub mod Access
pub mod Memory
pub mod Targets
