mod Filling
mod FlashBlocks
mod GlobalsHeld
mod Hits
pub mod Offsets
mod Order
pub mod PowersOfTwo
mod RamApart
mod RamInside
mod RamThere
mod StackBase
mod Uses
mod Within
