pub mod Reading
pub mod Counts
pub mod Contents
pub mod Memory
pub mod Calls
pub mod Sinks
