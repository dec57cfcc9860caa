pub mod Written
pub mod Grammar
pub mod Reading
pub mod Named
pub mod Tried
pub mod Planned
pub mod Kept
