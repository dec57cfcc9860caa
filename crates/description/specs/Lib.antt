pub mod Described
pub mod Laws
pub mod Versions
