pub mod Repeating
pub mod Fitting
pub mod Speaking
pub mod Fronts
pub mod Sending
pub mod Scripts
