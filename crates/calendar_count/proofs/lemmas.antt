-- The lemmas that crates above may cite, each over the definitions of `specs/`. What stands elsewhere in `proofs/` is this crate's alone.
pub mod Signed
pub mod Counting
pub mod Places
pub mod Days
pub mod Years
pub mod TheDay
pub mod Steps
