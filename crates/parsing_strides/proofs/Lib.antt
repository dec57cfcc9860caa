pub mod DigitLemmas
pub mod EndLemmas
pub mod LaneLemmas
pub mod PlaceLemmas
pub mod RangeLemmas
pub mod SameLemmas
pub mod StepLemmas
pub mod StrideLemmas
