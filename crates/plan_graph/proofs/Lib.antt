mod Reached
mod Cheapest
mod Costs
mod DifferentUsers
mod Ending
mod Exposures
mod Few
mod FewerCovers
mod Fitting
mod Found
mod Learned
mod LeastPower
mod MaskBits
mod Pairs
mod Steps
pub mod UsersHave
mod WholeGraph
pub mod Windows
mod Zipped
