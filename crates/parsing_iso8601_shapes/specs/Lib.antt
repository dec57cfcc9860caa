pub mod Days
pub mod Layout
