pub mod Ahead
pub mod Closed
pub mod Fronts
pub mod Leaves
pub mod Ranks
pub mod Tree
pub mod Twins
