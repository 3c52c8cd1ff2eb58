pub mod FunctionParts
pub mod BindingParts
