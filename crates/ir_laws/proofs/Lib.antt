pub mod Layouts
mod Accesses
mod Order
mod Tests
mod Names
mod Structs
mod Places
mod Words
pub mod Values
mod Functions
mod Globals
mod Firmware
mod Counts
mod Sizes
pub mod Windows
mod Declared
pub mod Aligned
pub mod GlobalShapes
pub mod Moving
mod Steps
mod Facts
mod Fitting
pub mod Resolved
pub mod Objects
