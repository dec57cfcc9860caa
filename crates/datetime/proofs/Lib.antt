pub mod LawLemmas
pub mod TextLemmas
