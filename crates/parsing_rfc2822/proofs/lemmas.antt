-- The lemmas on white space that crates above cite, each over the definitions of `specs/`.
pub mod Ends
