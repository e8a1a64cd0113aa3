pub mod Creations
pub mod Fields
pub mod Rules
