pub mod Steps
pub mod Clock
pub mod AllMoments
pub mod Search
