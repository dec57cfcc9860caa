pub mod Texts
pub mod Unix
