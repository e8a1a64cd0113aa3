pub mod Excesses
pub mod Parts
pub mod Texts
