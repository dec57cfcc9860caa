pub mod FrontLemmas
pub mod LetterLemmas
pub mod SaysLemmas
