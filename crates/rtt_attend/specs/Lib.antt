pub mod Counted
pub mod Heard
pub mod Opened
pub mod Named
