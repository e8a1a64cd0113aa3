pub mod Domination
pub mod Paths
pub mod Texts
