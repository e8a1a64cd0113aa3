pub mod KnownBytes
mod KeptDisk
mod Images
mod Moments
mod Replayed
mod SameOutside
