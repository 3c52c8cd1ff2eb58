pub mod Reaches
pub mod ThreadSteps
pub mod Changes
pub mod Started
mod Induction
pub mod EntryWords
pub mod FaultLaw
pub mod EnterLaw
pub mod SvcLaw
