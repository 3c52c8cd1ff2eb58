pub mod ListVec
