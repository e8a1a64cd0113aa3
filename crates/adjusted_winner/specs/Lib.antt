pub mod Lines
pub mod Moves
pub mod Answers
pub mod Texts
