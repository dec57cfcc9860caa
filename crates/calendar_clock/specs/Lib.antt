pub mod DateAdjustment
pub mod Time
pub mod TimeParts
pub mod UtcOffset
