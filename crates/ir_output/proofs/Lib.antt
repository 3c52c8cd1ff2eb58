pub mod Sources
pub mod Begins
mod Causes
