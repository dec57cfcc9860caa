pub mod lemmas
mod MovedLemmas
mod DurationLemmas
