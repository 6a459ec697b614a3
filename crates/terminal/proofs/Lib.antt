pub mod Listening
pub mod Seeing
pub mod Markers
