mod Tallying
mod Lines
mod Records
mod Lists
mod Legs
mod Changes
