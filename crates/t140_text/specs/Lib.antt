pub mod Screens
pub mod Displays
pub mod Endings
