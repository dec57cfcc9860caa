pub mod Carrying
pub mod Entries
pub mod Pieces
pub mod Rounding
pub mod TameLemmas
