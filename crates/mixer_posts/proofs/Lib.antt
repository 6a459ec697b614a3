pub mod Entering
pub mod Nexts
pub mod Streaming
pub mod Posting
pub mod Calling
pub mod Backward
pub mod LegLines
