pub mod Kept
pub mod Tallies
pub mod WholeParts
pub mod AllRiders
pub mod OneAudit
