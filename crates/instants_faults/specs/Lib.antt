pub mod Refusal
pub mod Refusals
pub mod ProgramText
pub mod Runs
