mod Adding
mod Gathering
mod Hearing
mod Splitting
pub mod Chain
mod MixedOpening
mod Mixing
mod Ending
mod Recorded
pub mod WholeSplits
