pub mod Erased
pub mod Runs
pub mod Endings
