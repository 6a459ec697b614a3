pub mod Times
pub mod Repeats
pub mod Wholes
pub mod Bounds
pub mod NeverFull
