pub mod Answering
pub mod Inspectable
mod Placed
mod Joined
