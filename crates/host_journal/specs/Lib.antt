pub mod Spelling
pub mod Journal
pub mod Reading
pub mod States
pub mod Calls
