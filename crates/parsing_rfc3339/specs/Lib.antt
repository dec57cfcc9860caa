pub mod Direct
pub mod Layout
pub mod Range
pub mod Reading
pub mod Whole
