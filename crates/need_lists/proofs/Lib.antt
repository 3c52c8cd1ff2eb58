pub mod Parts
pub mod Members
pub mod Any
pub mod Exact
