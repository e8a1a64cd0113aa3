pub mod Division
pub mod Prices
