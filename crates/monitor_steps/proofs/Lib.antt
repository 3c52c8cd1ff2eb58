pub mod CodeParts
mod Ticks
pub mod Runs
pub mod Gives
pub mod Within
pub mod Views
