pub mod Searches
pub mod Solving
