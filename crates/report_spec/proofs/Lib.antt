pub mod Ordered
pub mod Scripted
pub mod ShowExamples
pub mod Rows
pub mod LongFiles
mod Examples
