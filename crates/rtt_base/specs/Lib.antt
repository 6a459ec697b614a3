pub mod Timestamps
pub mod Buffers
pub mod Steps
pub mod Lends
pub mod Dates
