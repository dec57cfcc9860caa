-- The lemmas on components that crates above cite, each over the definitions of `specs/`.
pub mod Tame
pub mod Sizes
