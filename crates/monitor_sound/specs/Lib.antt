pub mod Accesses
pub mod Simulation
pub mod HaltingCalls
