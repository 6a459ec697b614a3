pub mod Typed
pub mod Mixed
pub mod Live
pub mod Cascade
pub mod Shut
