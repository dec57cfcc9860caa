mod FractionLemmas
pub mod LaneLemmas
mod LastLemmas
pub mod NumberLemmas
pub mod ReadLemmas
