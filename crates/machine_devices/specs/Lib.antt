pub mod Rules
pub mod Input
pub mod Tape
pub mod Lines
pub mod Queues
