pub mod ComponentLemmas
pub mod ItemLemmas
pub mod MomentLemmas
pub mod OptionalLemmas
pub mod ReadingLemmas
pub mod RecordLemmas
pub mod SaidLemmas
