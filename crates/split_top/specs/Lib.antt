pub mod Audits
pub mod Causes
pub mod Commands
pub mod Outside
pub mod Runs
pub mod Words
