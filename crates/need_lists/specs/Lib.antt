pub mod AnyOf
