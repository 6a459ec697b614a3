pub mod Relaying
pub mod Feeding
pub mod Matching
pub mod Beginning
