pub mod Arithmetic
pub mod Bytes
pub mod Flags
pub mod Runs
pub mod Width
