pub mod SourceRuns
pub mod Ends
