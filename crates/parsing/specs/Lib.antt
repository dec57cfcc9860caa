pub mod Error
pub mod Laws
pub mod TwoFormats
pub mod Joined
pub mod TwoVersions
