pub mod Bytes
pub mod Convert
