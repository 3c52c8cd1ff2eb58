pub mod Frames
mod Totals
pub mod PieceSizes
pub mod FunctionSizes
pub mod Even
pub mod Pieces
pub mod Compartments
mod Sites
pub mod Filling
pub mod Labels
pub mod Members
pub mod Lends
pub mod Scales
mod FrameParts
mod CheckedFrames
