pub mod Answers
pub mod CoreLines
pub mod MemoryLines
pub mod StateLines
