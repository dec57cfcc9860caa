pub mod Found
pub mod Places
pub mod Strides
