mod Firmwares
pub mod Sourcing
pub mod Answering
pub mod Unplanned
