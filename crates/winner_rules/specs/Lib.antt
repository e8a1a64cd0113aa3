pub mod Rules
pub mod Split
pub mod Judged
