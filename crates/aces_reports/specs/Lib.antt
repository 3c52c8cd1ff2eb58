pub mod FaultLines
pub mod Faults
pub mod Ends
pub mod WordsRefusals
