pub mod Cases
pub mod Fields
pub mod Handing
