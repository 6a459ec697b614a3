pub mod Ears
pub mod Outputs
