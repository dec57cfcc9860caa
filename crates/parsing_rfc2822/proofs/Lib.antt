pub mod CommentLemmas
pub mod StrictLemmas
pub mod TameLemmas
pub mod WordLemmas
pub mod lemmas
pub mod Many
pub mod WhiteSpaceLemmas
