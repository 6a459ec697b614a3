pub mod Keeping
pub mod Entries
pub mod Holding
