pub mod Appending
pub mod Steps
pub mod Walking
