use Rattle.std.proofs.Common.{◌≡◌, ◌≤◌, ◌<◌, ◌+◌, ◌-◌, ◌∙◌, ℕ, true, List, length, drop, get_or, sym, inl, inr, arith}
use Rattle.std.specs.Char.{is_ascii_digit}
use Rattle.std.proofs.lemmas.Bool.{cases_lt, false≢true}
use Rattle.std.proofs.lemmas.List.{length-drop, get_or-drop}
use Rattle.std.proofs.lemmas.List.Sums.{prefix_len_stops}
use Rattle.parsing_combinator.specs.Pieces.{digit_count}
use Rattle.parsing_places.proofs.long.are_digits.Goals as goal

-- one more digit after those from a place on
one_more : (text : List ℕ) (from place : ℕ) → from ≤ place → place < length text → place ≤ from + digit_count (drop from text) → is_ascii_digit (get_or text place 0) ≡ true → place + 1 ≤ from + digit_count (drop from text)
one_more text from place after lt far here = elim (cases_lt place (from + digit_count (drop from text))) [
  | inl less ↦ omega arith
  | inr le ↦
      let is : digit_count (drop from text) ≡ place - from = omega arith in
      let there : from + (place - from) ≡ place = omega arith in
      let stops = prefix_len_stops is_ascii_digit (drop from text) 0 (omega (arith, is, length-drop from text)) in
      absurd (false≢true (sym (rw (is, get_or-drop from text (place - from) 0, there) at stops) ∙ here))
]

pub loop-place-preserved : goal.loop-place-preserved
loop-place-preserved c = one_more c.args.text.now c.args.from c.loop-place.place (omega arith) (omega arith) c.loop-place.invariant (sym c.is_ascii_digit.ensures.value ∙ c.if-not-is_ascii_digit.false)
