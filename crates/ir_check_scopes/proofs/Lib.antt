pub mod Order
pub mod Regrouped
pub mod LentFuncs
mod NamedTypes
