pub mod Layout
pub mod Names
