pub mod Constants
pub mod Opening
pub mod Svc
pub mod MemFault
pub mod Reset
pub mod Page
pub mod CodeSize
pub mod TheCode
