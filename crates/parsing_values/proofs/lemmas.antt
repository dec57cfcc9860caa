-- The lemmas on resolutions and on fields that crates above cite, each over the definitions of `specs/`.
pub mod Ranges
pub mod Decimals
pub mod Moments
