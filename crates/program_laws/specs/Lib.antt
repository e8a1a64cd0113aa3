pub mod Brought
pub mod Certificates
