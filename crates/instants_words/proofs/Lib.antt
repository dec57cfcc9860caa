pub mod WordLemmas
pub mod SourceLemmas
pub mod TextLemmas
