pub mod Bodies
pub mod Fetched
pub mod Fields
pub mod Heads
pub mod Requests
pub mod Taken
