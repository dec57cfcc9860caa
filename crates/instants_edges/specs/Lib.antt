pub mod Edge
pub mod Text
pub mod Words
pub mod Beside
pub mod Pieces
