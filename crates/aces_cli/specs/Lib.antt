pub mod Compiled
pub mod Answer
pub mod Endings
pub mod Seen
pub mod Complete
pub mod Bounded
pub mod Clauses
