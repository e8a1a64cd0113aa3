pub mod Entries
pub mod Head
pub mod Printed
pub mod Rules
pub mod State
