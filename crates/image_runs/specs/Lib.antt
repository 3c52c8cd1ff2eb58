pub mod Denied
pub mod Own
pub mod Isolated
pub mod Whole
pub mod OtherCode
pub mod Laws
pub mod ReplacedCode
