pub mod Rules
pub mod Demands
pub mod Gathered
pub mod Solutions
pub mod Pairs
pub mod Nodes
pub mod Numbers
pub mod Sets
