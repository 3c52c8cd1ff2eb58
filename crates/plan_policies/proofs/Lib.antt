pub mod Below
mod ByName
pub mod Distinct
mod Files
pub mod Moves
mod NextNumber
pub mod Numbers
mod Periphs
mod Told
mod UsedGroups
