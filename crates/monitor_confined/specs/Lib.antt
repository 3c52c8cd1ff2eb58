pub mod Reaches
pub mod ThreadSteps
pub mod WholeRuns
pub mod FromLaw
