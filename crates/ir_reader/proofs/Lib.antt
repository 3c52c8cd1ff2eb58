mod Tables
mod Kept
pub mod Scanning
pub mod Ends
mod Separated
mod Values
mod Lang
mod Derive
mod Theorem
mod Plain
mod Pieces
mod Proper
pub mod Texts
mod Columns
mod Lefts
pub mod Whole
mod Stops
mod Allow
mod Complete
mod Verdicts
mod Firsts
mod Faultless
mod Along
mod Single
mod Unique
