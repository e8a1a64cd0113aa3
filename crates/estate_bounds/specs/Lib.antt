pub mod Counts
pub mod Weighted
pub mod Shown
pub mod Sums
pub mod Units
pub mod Logs
pub mod Prices
