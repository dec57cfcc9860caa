pub mod Cuts
pub mod Many
pub mod Readings
pub mod Shorter
pub mod Prefixes
pub mod Steps
