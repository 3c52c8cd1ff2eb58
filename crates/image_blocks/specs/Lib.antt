pub mod Uses
pub mod Filling
