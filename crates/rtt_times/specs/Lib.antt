pub mod Lines
pub mod Writing
pub mod Heard
pub mod Numbers
pub mod Found
pub mod Rows
