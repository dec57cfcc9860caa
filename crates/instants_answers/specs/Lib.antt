pub mod Text
pub mod Line
pub mod Minute
pub mod Padded
pub mod Utc
pub mod Moved
pub mod Written
