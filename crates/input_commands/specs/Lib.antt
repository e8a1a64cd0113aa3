pub mod Answers
pub mod Commands
pub mod Ends
pub mod Players
pub mod Replies
pub mod Steps
