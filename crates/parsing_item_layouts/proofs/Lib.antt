pub mod FormLemmas
pub mod FrontLemmas
mod Ruled
pub mod WalkLemmas
