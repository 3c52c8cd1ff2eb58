pub mod Filling
pub mod Lowest
pub mod Placing
