pub mod Ignoring
