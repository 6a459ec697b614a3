pub mod Pieces
pub mod Lines
pub mod Recordings
pub mod Whole
pub mod Records
pub mod Told
mod Entries
pub mod Fronts
pub mod Written
