pub mod Labels
pub mod Runs
pub mod States
pub mod Choices
pub mod Insides
pub mod Standing
pub mod Giving
