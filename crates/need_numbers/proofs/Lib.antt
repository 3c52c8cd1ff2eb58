pub mod GroupPlaces
mod Runs
mod WordBits
mod Cuts
