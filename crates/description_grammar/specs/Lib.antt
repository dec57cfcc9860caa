pub mod Reading
pub mod Pieces
pub mod Heads
pub mod Spelling
pub mod Faulty
pub mod Outcomes
