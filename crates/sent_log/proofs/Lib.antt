pub mod Agreeing
pub mod Growing
pub mod Running
pub mod Noting
pub mod Rendering
pub mod Written
pub mod Penning
pub mod Recorded
pub mod Passing
pub mod Overwriting
mod Trials
