pub mod Duration
pub mod DurationParts
pub mod DurationSum
pub mod DurationText
