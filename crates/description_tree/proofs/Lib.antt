pub mod InnerTrees
pub mod Longest
