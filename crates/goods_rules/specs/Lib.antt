pub mod Ahead
pub mod Leaves
pub mod Path
pub mod Printed
pub mod Rules
pub mod State
pub mod Tree
