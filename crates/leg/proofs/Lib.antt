pub mod Stepping
pub mod Later
pub mod Fronts
pub mod Feeding
pub mod Telling
pub mod OfConferences
pub mod Pushing
