pub mod Terminals
pub mod Views
pub mod Told
