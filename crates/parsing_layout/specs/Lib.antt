pub mod Layout
pub mod Stretch
pub mod Bounds
pub mod Items
pub mod Said
pub mod Range
pub mod Letters
