pub mod Chosen
pub mod Component
pub mod Keys
pub mod Lookup
pub mod Made
pub mod Names
pub mod Values
