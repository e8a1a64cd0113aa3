pub mod Bidders
pub mod GivenValues
pub mod LegLimits
pub mod LegPlaces
pub mod Legs
pub mod Players
pub mod RentValues
pub mod ValidCases
