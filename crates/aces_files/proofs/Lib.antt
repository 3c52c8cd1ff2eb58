pub mod Starting
mod Boards
mod Whole
pub mod Asked
pub mod Ends
mod Reading
mod Unchanged
pub mod OneFile
pub mod TwoFiles
pub mod Printing
pub mod Answering
