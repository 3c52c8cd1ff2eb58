mod Pieces
pub mod Growing
mod Named
mod Firsts
mod Spans
mod Gaps
mod Exact
