pub mod FormLists
mod Lengths
mod SameChoices
mod SameComponents
pub mod SameTrees
