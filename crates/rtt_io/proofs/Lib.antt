pub mod Files
pub mod Known
pub mod Keyed
pub mod Holding
