pub mod Inner
pub mod Kinds
pub mod Reserved
pub mod Description
pub mod Forms
