pub mod Pieces
pub mod Sources
pub mod FirstSource
pub mod Words
pub mod TextWords
