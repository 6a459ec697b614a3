pub mod Mixers
pub mod Outputs
pub mod Gateways
