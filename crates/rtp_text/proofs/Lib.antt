pub mod Parts
pub mod Steps
pub mod Spelling
pub mod Offsets
pub mod Pieces
pub mod Viewing
pub mod Plain
