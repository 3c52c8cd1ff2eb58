pub mod Totals
pub mod Replaced
mod Counted
mod Numbered
mod Finished
mod Equal
pub mod Members
pub mod Orders
mod Shares
