mod ControlLoop
mod Joining
mod Placing
pub mod OneItem
mod LeastSets
mod LentNeeds
mod Loans
mod SelfCalls
mod StackPositions
