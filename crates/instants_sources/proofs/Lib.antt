pub mod FewNodes
pub mod Form
pub mod Planned
pub mod Refused
pub mod Roads
pub mod RuledOut
mod Spelled
