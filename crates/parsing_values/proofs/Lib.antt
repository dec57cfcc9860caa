pub mod lemmas
pub mod MonthEndLemmas
pub mod NamedDayLemmas
mod ConstructorLemmas
mod DateLawLemmas
mod LawLemmas
mod DigitLemmas
mod DigitPairs
mod DigitsBefore
mod MonthLengths
mod OffsetMinutes
mod UnixTime
mod YearLemmas
