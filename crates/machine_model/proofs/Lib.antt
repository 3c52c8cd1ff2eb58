pub mod Runs
mod AccessLaw
pub mod Tested
mod Flash
mod Listed
pub mod Exec
mod Acts
mod Stack
pub mod InstructionEffects
pub mod Transfers
mod Special
mod Entries
pub mod Frames
mod Gathered
mod Threads
pub mod Constants
mod ShapeActs
mod Shape
pub mod ShapeSteps
pub mod CodeBytes
pub mod CodeParts
pub mod Fetches
pub mod Ends
mod ActStacks
mod Asked
mod ThreadStep
mod AnyStep
pub mod Turns
mod EntryFrame
mod SameBytes
mod Locality
mod Accessed
pub mod StackWords
pub mod ToSystem
mod Starts
