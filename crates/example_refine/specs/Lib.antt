pub mod TwoCompartments
pub mod Source
pub mod Applied
