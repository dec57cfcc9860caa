pub mod FirstBounds
pub mod FirstBytes
pub mod Forms
pub mod Fronts
