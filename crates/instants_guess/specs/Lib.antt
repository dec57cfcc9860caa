pub mod Tallies
pub mod Candidate
pub mod Ran
