pub mod DaysLemmas
pub mod OccurrenceLemmas
