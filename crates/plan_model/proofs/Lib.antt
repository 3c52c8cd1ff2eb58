pub mod Meeting
pub mod Orders
pub mod Powers
pub mod Numbers
pub mod Compartments
pub mod Choices
pub mod SameUsers
pub mod KeptLimits
