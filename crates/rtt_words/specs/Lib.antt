pub mod Help
pub mod Words
pub mod Tasks
pub mod Sent
pub mod Told
pub mod Commands
pub mod Apps
