pub mod ClockLemmas
pub mod BetweenLemmas
pub mod MomentLemmas
pub mod NameLemmas
