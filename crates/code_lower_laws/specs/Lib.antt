pub mod Reaching
pub mod Fitting
