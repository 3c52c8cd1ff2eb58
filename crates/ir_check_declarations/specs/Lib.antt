pub mod DeclarationParts
pub mod StructParts
