-- The lemmas that crates above may cite, each over the definitions of `specs/`. What stands elsewhere in `proofs/` is this crate's alone.
pub mod WallClocks
pub mod Shown
pub mod Cuts
pub mod Nearest
