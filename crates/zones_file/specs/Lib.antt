pub mod Bytes
pub mod Layout
pub mod Table
pub mod Footer
pub mod Zone
pub mod Faults
