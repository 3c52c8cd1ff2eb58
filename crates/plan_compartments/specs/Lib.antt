pub mod Divisions
pub mod Analyses
pub mod Laws
