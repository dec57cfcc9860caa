pub mod Answered
pub mod Held
pub mod LinesHeld
pub mod LinesPut
pub mod Refused
