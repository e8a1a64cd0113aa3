pub mod SameCases
pub mod ShownBest
