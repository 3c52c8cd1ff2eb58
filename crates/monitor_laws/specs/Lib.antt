pub mod RegionsWritten
pub mod StartUp
