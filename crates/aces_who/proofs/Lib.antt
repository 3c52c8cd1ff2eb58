mod Exact
pub mod Answering
