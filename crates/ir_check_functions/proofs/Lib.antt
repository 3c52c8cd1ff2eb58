mod FuncParts
mod LocalSizes
mod BindingNames
