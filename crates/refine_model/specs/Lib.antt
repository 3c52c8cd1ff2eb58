pub mod StackLimit
pub mod Refines
