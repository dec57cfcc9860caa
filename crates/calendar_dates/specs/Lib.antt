pub mod DateText
pub mod Days
pub mod Occurrence
pub mod Arithmetic
