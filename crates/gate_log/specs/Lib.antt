pub mod Records
pub mod Faults
pub mod Gate
pub mod Log
pub mod Ahead
pub mod Inside
pub mod Calls
