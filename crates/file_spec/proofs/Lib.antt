mod ConferenceExamples
pub mod Crowds
mod NumberExamples
pub mod KeptLines
pub mod NameTexts
pub mod Passed
mod ScriptExamples
pub mod EachLine
pub mod Readings
pub mod Sound
pub mod Fronts
mod Examples
pub mod Changed
pub mod Plain
