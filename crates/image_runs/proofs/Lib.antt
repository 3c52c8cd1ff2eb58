mod Devices
mod Slots
mod KeptOff
mod KeptRuns
mod Globals
mod Accesses
mod OwnRegions
mod Readers
mod Regions
mod Isolation
mod Composed
mod Alike
mod ReadAlike
mod ChecksAlike
mod CodeStays
mod Behind
pub mod Kept
