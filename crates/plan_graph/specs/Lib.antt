pub mod UserLists
pub mod ReachMasks
pub mod Known
pub mod Choices
pub mod Merging
pub mod Fitting
