pub mod Forms
pub mod Modern
pub mod Same
pub mod SameLaws
pub mod Tree
