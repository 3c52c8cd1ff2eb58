mod Planning
pub mod Answering
