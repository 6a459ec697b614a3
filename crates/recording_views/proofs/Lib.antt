mod ReadExamples
pub mod Hearing
pub mod Digits
pub mod Going
pub mod Sizes
mod ListExamples
pub mod Escaping
pub mod Writing
pub mod Unescaping
pub mod Reading
mod ScriptExamples
