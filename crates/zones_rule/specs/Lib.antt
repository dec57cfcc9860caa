pub mod Offsets
pub mod Pieces
pub mod Grammar
pub mod Years
pub mod Transitions
pub mod Pushing
