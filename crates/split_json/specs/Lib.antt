pub mod Bodies
pub mod Deadlines
pub mod Proposals
pub mod Reading
pub mod Rules
