pub mod Answers
pub mod Laws
pub mod Moved
pub mod Heads
pub mod Findings
pub mod Reach
