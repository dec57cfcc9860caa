mod FieldLemmas
mod PlaceLemmas
mod SplitLemmas
mod Timestamps
mod Walk
