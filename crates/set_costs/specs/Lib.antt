pub mod FirstStops
pub mod Table
pub mod Sums
