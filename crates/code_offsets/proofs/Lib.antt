mod Offsets
pub mod Bare
mod Places
