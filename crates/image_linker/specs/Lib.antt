pub mod Standing
pub mod Placing
pub mod Parts
pub mod LinkParts
