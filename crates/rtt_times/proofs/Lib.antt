pub mod Writing
pub mod Kept
pub mod Hearing
pub mod Missing
pub mod Early
pub mod Telling
pub mod Rowing
