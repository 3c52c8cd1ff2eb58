pub mod Ranges
pub mod Addresses
pub mod Placed
mod Searches
pub mod Offsets
pub mod Lengths
pub mod WordBytes
