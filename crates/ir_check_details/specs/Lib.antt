pub mod Words
pub mod Found
pub mod Instructions
pub mod Calls
pub mod Functions
pub mod Peripherals
pub mod FirstValues
pub mod CheckLines
