-- What tests of windows say.
use Rattle.std.proofs.Common.{◌≡◌, ◌<◌, ◌≤◌, ◌+◌, ℕ, zero, suc, true, get_or, length, List, arith, lit<, inl, inr}
use Rattle.std.proofs.lemmas.Bool.{cases_lt}
use Rattle.parsing_combinator.specs.Places.{HasDigit, HasPair}
use Rattle.parsing_places.specs.Windows.{Taken, lets_at, lets_year, spares_from, spares_one}
use Rattle.parsing_places.specs.declared.windows.Windows.{Windows}
use Rattle.parsing_places.proofs.NumberLemmas.{byte_within}
use Rattle.parsing_layout.proofs.TestLemmas.{both, at_most}

pub all_spared : (w : Windows) (lane count k : ℕ) → spares_from w lane count ≡ true → lane ≤ k → k < lane + count → spares_one w k ≡ true
all_spared w lane zero k e low high = absurd (omega (arith, low, high))
all_spared w lane (suc count) k e low high =
    let b = both (spares_one w lane) (spares_from w (lane + 1) count) e in
    elim (cases_lt lane k) [
      | inl lt ↦ all_spared w (lane + 1) count k b.1 (omega (arith, lt)) (omega (arith, high))
      | inr le ↦ let is : k ≡ lane = omega (arith, low, le) in rw is b.0
    ]

-- the digits of a year
module _ (w : Windows) (text v : List ℕ) (size year : ℕ) (h : Taken w text v) (small : (k : ℕ) → get_or text k 0 < 256) (lets_four : lets_year w size year ≡ true) (long : size ≤ length text) where
  digit_at : (place : ℕ) → lets_at w place 48 9 ≡ true → HasDigit text place
  digit_at place lets_digit = let b = byte_within w text v h small place 48 9 lets_digit (lit< tt) in record { low = b.0; high = b.1 }

  pub year_pairs : HasPair text year × HasPair text (year + 2)
  year_pairs =
      let a = both _ _ lets_four in
      let b = both _ _ a.1 in
      let c = both _ _ b.1 in
      let d = both _ _ c.1 in
      let room = at_most (year + 4) size a.0 in
      let next : year + 3 ≡ year + 2 + 1 = omega arith in (
        record { room = omega (arith, room, long); first = digit_at year b.0; second = digit_at (year + 1) c.0 },
        record { room = omega (arith, room, long); first = digit_at (year + 2) d.0; second = rw next at (digit_at (year + 3) d.1) },
      )
