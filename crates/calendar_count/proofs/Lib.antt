pub mod lemmas
mod CountLemmas
mod ViewLemmas
mod MarchLemmas
mod ThursdayLemmas
mod FourDigits
mod PaddingLemmas
mod DigitLemmas
mod StandardFacts
