pub mod Functions
pub mod Callbacks
pub mod Marks
