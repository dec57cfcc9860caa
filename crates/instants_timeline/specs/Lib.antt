pub mod Sources
pub mod FirstNamed
pub mod Place
pub mod Settings
pub mod Tried
pub mod Program
