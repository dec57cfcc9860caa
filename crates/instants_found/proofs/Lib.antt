pub mod Needless
pub mod ZonedLemmas
pub mod ReadAt
pub mod Longest
pub mod LaneLemmas
pub mod NoStart
pub mod NoDates
pub mod Next
pub mod SourceKeys
pub mod KeyLemmas
pub mod FirstFound
pub mod DoubtOf
pub mod NearFound
pub mod OneFound
pub mod Bounded
mod SameYears
pub mod Wholly
