pub mod Separated
pub mod Spelled
