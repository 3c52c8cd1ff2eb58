pub mod Before
mod FlashCount
pub mod Searches
mod Smallest
mod Sorted
mod Steps
mod Whole
pub mod Tried
