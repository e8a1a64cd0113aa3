pub mod Forms
pub mod Given
pub mod Lines
pub mod Steps
pub mod Texts
