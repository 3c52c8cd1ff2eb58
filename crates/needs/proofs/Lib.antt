mod Closing
mod Joined
pub mod Funcs
mod Used
mod Matched
mod Walked
pub mod Bounded
mod FunctionTargets
mod Gathered
mod Lendables
