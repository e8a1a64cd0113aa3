pub mod Grounds
pub mod Leaves
pub mod Nodes
