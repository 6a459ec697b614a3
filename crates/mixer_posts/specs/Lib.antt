pub mod Streams
pub mod Posts
pub mod States
pub mod Standing
pub mod Laws
