pub mod Commands
pub mod Replies
pub mod Cases
pub mod Keeping
pub mod Sent
