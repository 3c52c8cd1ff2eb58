pub mod Lines
pub mod Subjects
pub mod Names
pub mod Undeclared
pub mod CompartmentLines
pub mod Listing
