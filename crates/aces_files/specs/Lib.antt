pub mod Outcomes
pub mod Known
pub mod Contents
pub mod Answers
pub mod Effects
pub mod CarriesOut
pub mod Loads
pub mod Tellings
