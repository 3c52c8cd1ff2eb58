mod Digits
mod Addresses
mod Words
mod Usage
pub mod Requests
