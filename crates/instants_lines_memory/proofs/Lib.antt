pub mod Puts
pub mod KeysDue
pub mod DatesDue
pub mod Wrapped
