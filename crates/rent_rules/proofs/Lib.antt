pub mod Padded
pub mod PrintedNumbers
pub mod Shown
