pub mod Answering
pub mod WellDone
mod Numbering
mod Found
mod Whole
mod Marking
