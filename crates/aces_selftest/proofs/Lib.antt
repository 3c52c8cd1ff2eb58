mod Lengths
mod Going
mod SourceTurns
mod MachineTurns
mod Boards
mod Starts
mod Image
mod Ran
mod Refused
mod Words
mod Same
mod SameEvents
pub mod Answering
