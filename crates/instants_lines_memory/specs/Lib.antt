pub mod Put
pub mod Over
pub mod FaultText
pub mod Zoned
pub mod ZonedOver
