mod Reaching
mod Functions
mod Compartments
mod Fitting
pub mod Here
