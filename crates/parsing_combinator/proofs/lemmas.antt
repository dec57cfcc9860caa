-- The lemmas on readings that crates above cite, each over the definitions of `specs/`.
pub mod Strict
pub mod Tame
