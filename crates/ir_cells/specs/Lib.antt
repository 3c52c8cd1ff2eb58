pub mod Cells
pub mod Halving
