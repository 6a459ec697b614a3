pub mod Causes
pub mod Fronts
pub mod Texts
pub mod ScriptLines
pub mod Spans
