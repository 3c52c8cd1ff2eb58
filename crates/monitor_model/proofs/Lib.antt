pub mod Multiples
pub mod Invariants
pub mod Beyond
pub mod ReadFrom
