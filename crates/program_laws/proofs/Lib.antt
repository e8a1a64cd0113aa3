mod Cycles
mod FewestSteps
mod FirstRoutes
mod HeaviestWalks
mod KeySizes
mod SomeFares
mod SomeRents
pub mod DateBytes
pub mod Lengths
pub mod ReplyHeads
pub mod SentCertificates
pub mod Taken
