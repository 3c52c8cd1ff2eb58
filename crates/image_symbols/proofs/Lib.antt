mod SymbolParts
mod Functions
mod Lines
mod Parts
