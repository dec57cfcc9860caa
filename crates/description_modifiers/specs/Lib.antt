pub mod Ignored
