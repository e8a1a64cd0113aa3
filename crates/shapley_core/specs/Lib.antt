pub mod Division
pub mod Members
