pub mod Arithmetic
pub mod Bytes
mod Flags
pub mod Runs
pub mod EventLines
