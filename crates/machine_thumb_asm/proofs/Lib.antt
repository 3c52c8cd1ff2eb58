mod Pieces
pub mod Reaching
pub mod Decoded
pub mod Items
