pub mod Filled
pub mod Seen
