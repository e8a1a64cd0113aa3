pub mod Best
pub mod Ends
pub mod Progress
pub mod Division
pub mod First
pub mod Waiting
pub mod Pieces
pub mod Tables
