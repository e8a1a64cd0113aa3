pub mod Fronts
pub mod Estates
pub mod Endings
