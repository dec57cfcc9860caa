pub mod Pieces
pub mod Strings
pub mod Compared
pub mod Json
pub mod Members
pub mod Found
pub mod Columns
pub mod Laws
