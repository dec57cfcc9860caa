pub mod Turns
pub mod StringLemmas
pub mod ItemLemmas
pub mod FoundLemmas
pub mod ColumnLemmas
pub mod PlainLemmas
pub mod LawLemmas
pub mod PlainRuns
