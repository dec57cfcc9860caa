pub mod Fields
pub mod Parts
pub mod Places
pub mod Plan
pub mod UnixTime
