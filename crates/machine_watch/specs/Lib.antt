pub mod Answers
pub mod Sessions
pub mod Watched
