pub mod Table
pub mod Bytes
pub mod Decoded
pub mod Laws
