mod Pieces
mod Crash
mod Reading
mod Unique
mod Buffer
mod Writes
mod Total
