pub mod Assembly
pub mod Finished
pub mod Decodes
