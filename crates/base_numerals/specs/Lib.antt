pub mod Numerals
pub mod Capped
