mod Rows
mod Stops
pub mod Answering
pub mod Findable
