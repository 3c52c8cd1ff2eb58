pub mod Kept
mod Refusing
mod OneAnswer
