pub mod Items
pub mod Faulty
pub mod Stands
pub mod Sizes
pub mod Lefts
pub mod Rows
pub mod Laws
