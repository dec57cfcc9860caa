pub mod Lanes
pub mod Last
pub mod Numbers
pub mod Tail
pub mod Windows
