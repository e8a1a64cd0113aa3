pub mod Divisions
pub mod Winners
pub mod Procedure
pub mod Moving
pub mod Shown
pub mod Printed
pub mod Parts
