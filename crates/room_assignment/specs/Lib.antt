pub mod Entries
pub mod Matrix
pub mod Rounds
pub mod Tree
