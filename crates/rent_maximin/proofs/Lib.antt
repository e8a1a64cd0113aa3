pub mod Divisions
pub mod PriceLaws
pub mod Ranges
