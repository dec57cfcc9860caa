pub mod Counted
pub mod FirstNamed
pub mod Means
pub mod LineLength
pub mod Shows
