mod Found
mod Alike
mod Kept
mod Lists
mod Loaded
mod Machines
mod MachineRuns
mod Standing
pub mod Selected
pub mod StepAnswers
