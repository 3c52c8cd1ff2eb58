pub mod Draws
pub mod Choices
pub mod Names
pub mod Functions
pub mod Made
pub mod Taped
