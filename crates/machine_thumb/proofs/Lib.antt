pub mod Offsets
mod Sound
mod Round
pub mod Relation
mod LeftOut
pub mod Codes
