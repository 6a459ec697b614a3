pub mod Taking
pub mod Feeding
pub mod Events
pub mod Asking
pub mod Steps
pub mod SendFronts
pub mod Ending
pub mod SendLines
pub mod Accepted
pub mod Typed
pub mod Firsts
pub mod ReadBack
pub mod Arriving
pub mod Heard
mod Examples
pub mod Back
pub mod RelayLines
pub mod Framing
