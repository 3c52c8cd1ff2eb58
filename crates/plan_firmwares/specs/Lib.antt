pub mod Analysed
pub mod Unplanned
pub mod Plannable
pub mod Laws
