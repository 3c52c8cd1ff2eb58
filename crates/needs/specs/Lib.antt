pub mod Reaching
pub mod Uses
pub mod Accesses
pub mod Bounds
pub mod Sites
pub mod Targets
pub mod Lent
