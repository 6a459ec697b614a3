pub mod ConferenceLoop
pub mod EntryWords
