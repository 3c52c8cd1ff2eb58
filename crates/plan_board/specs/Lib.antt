pub mod Denied
pub mod Extra
pub mod Fields
pub mod Keys
pub mod Laws
pub mod Reading
