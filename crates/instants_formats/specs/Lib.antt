pub mod Format
pub mod Table
pub mod Named
pub mod Words
