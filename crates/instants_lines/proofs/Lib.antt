pub mod Turns
pub mod Outside
pub mod Escapes
mod Beside
pub mod Digits
pub mod Explaining
pub mod Keyed
mod Saying
pub mod Keys
pub mod Wholly
pub mod WhollyAssumed
pub mod Within
pub mod States
pub mod Joined
pub mod Carried
pub mod Handed
pub mod Fields
pub mod WithoutKeys
pub mod Replaced
pub mod KeyedLines
mod Unix
