pub mod Wall
pub mod Seconds
