pub mod Puts
mod Splits
mod Alone
mod Nested
