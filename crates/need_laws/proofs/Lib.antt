pub mod Listed
mod StepsStay
pub mod Inside
mod Owned
mod Least
