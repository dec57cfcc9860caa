pub mod Direct
pub mod Names
pub mod Range
pub mod Reading
pub mod Words
pub mod Skips
pub mod WhiteSpace
