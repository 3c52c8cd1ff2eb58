mod Bytes
mod Totals
mod Standing
pub mod Placed
pub mod Linked
mod Same
mod Fits
