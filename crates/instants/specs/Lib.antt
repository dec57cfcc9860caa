pub mod Answered
pub mod FixedPoint
pub mod Output
pub mod Appended
