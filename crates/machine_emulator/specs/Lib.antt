pub mod Code
pub mod Known
pub mod Parts
pub mod Accesses
pub mod Fetches
pub mod Machine
pub mod Reads
