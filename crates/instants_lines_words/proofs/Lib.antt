mod AskedWords
mod ZoneNames
pub mod Spelling
pub mod Sources
mod Reading
pub mod Stays
