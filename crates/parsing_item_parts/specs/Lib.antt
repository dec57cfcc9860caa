pub mod Assumed
pub mod Items
pub mod Recorded
pub mod Kind
pub mod Listed
