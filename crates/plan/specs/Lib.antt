pub mod PlannedFirmwares
pub mod Planned
pub mod Refusals
pub mod Laws
