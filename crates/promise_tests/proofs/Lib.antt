pub mod Typing
pub mod Endings
pub mod Mixing
pub mod Calling
pub mod Cascading
pub mod Shutting
