pub mod Views
pub mod Desks
pub mod Steps
pub mod Plays
pub mod Works
pub mod BlockEnds
pub mod Crews
