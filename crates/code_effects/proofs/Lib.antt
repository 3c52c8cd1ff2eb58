pub mod Registers
mod Joined
mod Moves
pub mod Items
pub mod Kept
mod ItemBytes
mod Assembled
mod Functions
mod Compartments
mod Fits
mod Distances
mod Numbers
mod Comparisons
mod Addresses
mod Accesses
mod Branches
mod Sources
mod Arguments
mod Calls
pub mod Entry
mod Returns
