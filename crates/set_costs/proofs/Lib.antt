pub mod FirstRiders
pub mod LastRiders
pub mod LeastRoutes
pub mod SetBits
pub mod SetSums
pub mod TableRows
