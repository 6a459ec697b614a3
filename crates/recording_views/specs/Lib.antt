pub mod Recordings
pub mod Lines
pub mod Escapes
pub mod Writing
pub mod Laws
