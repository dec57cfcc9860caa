pub mod NumberLemmas
pub mod TransitionLemmas
pub mod PushLemmas
pub mod WeekLemmas
pub mod PeriodLemmas
