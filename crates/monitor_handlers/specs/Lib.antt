pub mod Modes
pub mod FaultLaw
pub mod SvcLaw
