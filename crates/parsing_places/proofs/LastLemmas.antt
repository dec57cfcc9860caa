-- The last bytes of a text with a fraction of a second.
use Rattle.std.proofs.Common.{◌≡◌, ◌≤◌, ◌<◌, ◌+◌, ◌-◌, ◌^◌, ◌%◌, ◌∙◌, ℕ, List, length, get_or, drop, true, refl, arith, inl, inr, lit≤}
use Rattle.std.proofs.lemmas.Bool.{cases_lt}
use Rattle.std.proofs.lemmas.List.{get_or-drop, length-drop}
use Rattle.parsing_values.specs.Digits.{AreNineDigits}
use Rattle.parsing_combinator.specs.Written.{WriteFraction}
use Rattle.std.specs.Str.Parse.{digits_value}
use Rattle.parsing_values.specs.Digits.{nine_digits}
use Rattle.parsing_places.specs.Lanes.{are_moves, above}
use Rattle.parsing_places.specs.Last.{HaveFraction, HaveLast, HaveWindow}
use Rattle.parsing_places.specs.Numbers.{IsDigitAt}
use Rattle.parsing_places.specs.declared.last.LastBytes.{LastBytes}
use Rattle.parsing_places.proofs.FractionLemmas.{fraction_in}
use Rattle.parsing_places.proofs.LaneLemmas.{moves_all}
use lib.Lanes.{number_l, chunk}
use Rattle.std.proofs.lemmas.Bool.Decides.{nat_tests}

-- lanes that slide along the places before the last bytes
module _ (last : LastBytes) (moves : List ℕ) (count : ℕ) (near : count + last.length ≤ 16) (n : length moves ≡ 16) (slid : (k : ℕ) → k < 16 → get_or moves k 0 ≡ get_or last.places (16 - last.length - count + k) 0) where
  pub slid_place : (k : ℕ) → k < count → get_or moves k 0 ≡ 16 - last.length - count + k
  slid_place k lt = slid k (omega (arith, lt, near)) ∙ last.before (16 - last.length - count + k) (omega (arith, lt, near))

  pub slid_none : (k : ℕ) → count ≤ k → k < 16 → 128 ≤ get_or moves k 0
  slid_none k le lt = rw (slid k lt) (last.after (16 - last.length - count + k) (omega (arith, le, near)) (omega (arith, lt, near)))

  pub slid_moves : are_moves moves ≡ true
  slid_moves = moves_all moves (λ k lt high.
      let small : k < 16 = omega (arith, lt, n) in
      elim (cases_lt k count) [
        | inl prefix ↦ absurd (omega (arith, high, slid_place k prefix, prefix, near))
        | inr back ↦ slid_none k back small
      ])

-- where there are digits, the last of them stands within the text
pub fraction_room : (line : List ℕ) (place count : ℕ) (digits : List ℕ) → HaveFraction line place count digits → 0 < count → place + count ≤ length line
fraction_room line place count digits h some = grind (arith, nat_tests)

digit_of : (text : List ℕ) (place : ℕ) (digits : List ℕ) (k : ℕ) → get_or digits k 0 ≡ above (get_or text place 0) 48 → get_or digits k 0 ≤ 9 → get_or text place 0 < 256 → place < length text → IsDigitAt digits k text place 9
digit_of text place digits k is few small room = grind (arith, nat_tests)

module _ (digits text : List ℕ) (first last : ℕ) (n : length text ≡ 16) (bytes : (k : ℕ) → get_or text k 0 < 256) (is_text : (k : ℕ) → k < 9 → get_or text k 0 ≡ (get_or digits k 0 + 48) % 2 ^ 8)
    (is : first ≡ number_l 256 (chunk 0 8 text)) (end : last ≡ get_or text 8 0) where
  pub nine_there : ((k : ℕ) → k < 16 → get_or digits k 0 ≤ 9) → AreNineDigits first last
  nine_there few =
      let same : (k : ℕ) → k < 9 → get_or text k 0 ≡ get_or digits k 0 + 48 = λ k lt. (omega (arith, is_text k lt, few k (omega (arith, lt)))) in
      (fraction_in text text 9 first last (lit≤ tt) (omega (arith, n)) n bytes (λ k lt. (omega (arith, same k lt))) (λ k lt. (omega (arith, same k lt, few k (omega (arith, lt))))) (λ k lt. refl) (λ k le lt. absurd (omega (arith, le, lt))) is end).are

  pub fraction_there : (line : List ℕ) (place count : ℕ) → HaveFraction line place count digits → WriteFraction (drop place line) count (digits_value 10 (nine_digits first last))
  fraction_there line place count h =
      let room : count ≤ length (drop place line) = elim (cases_lt 0 count) [ inl some ↦ omega (arith, length-drop place line, fraction_room line place count digits h some) | inr none ↦ omega (arith, none) ] in
      let byte : (k : ℕ) → k < count → get_or (drop place line) k 0 ≡ get_or line (place + k) 0 = λ k lt. get_or-drop place line k 0 in
      (fraction_in (drop place line) text count first last h.few room n bytes
      (λ k lt. (omega (arith, byte k lt, (h.each k lt).digit.low)))
      (λ k lt. (omega (arith, byte k lt, (h.each k lt).digit.high)))
      (λ k lt. (omega (arith, byte k lt, is_text k (omega (arith, lt, h.few)), (h.each k lt).value, (h.each k lt).digit.low, (h.each k lt).digit.high)))
      (λ k le lt. (omega (arith, is_text k lt, h.zeros k le (omega (arith, lt)))))
      is end).writes

pub last_read : (last : LastBytes) (text : List ℕ) (end count : ℕ) (a v digits : List ℕ) → HaveWindow last.window text (end - 16) v
    → ((k : ℕ) → k < 16 → get_or a k 0 ≡ above (get_or text (end - 16 + k) 0) (get_or last.window.low k 0)) → ((k : ℕ) → get_or text k 0 < 256)
    → 16 ≤ end → end ≤ length text → count ≤ 9 → count + last.length ≤ 16 → ((k : ℕ) → k < count → get_or digits k 0 ≡ get_or a (16 - last.length - count + k) 0)
    → ((k : ℕ) → count ≤ k → k < 16 → get_or digits k 0 ≡ 0) → ((k : ℕ) → k < 16 → get_or digits k 0 ≤ 9) → HaveLast last text end count v digits
last_read last text end count a v digits seen above_is small long within few near taken zeros nine = record {
  window = seen;
  fraction = record {
    few = few;
    each = λ k lt.
        let at : ℕ = 16 - last.length - count + k in
        let inside : at < 16 = omega (arith, lt, near) in
        let place : end - 16 + at ≡ end - last.length - count + k = omega (arith, lt, near, long) in
        let zero : get_or last.window.low at 0 ≡ 48 = last.zeros at (omega (arith, lt, near)) in
        digit_of text (end - last.length - count + k) digits k
        (rw (place, zero) at (taken k lt ∙ above_is at inside)) (nine k (omega (arith, lt, few))) (small _) (omega (arith, within, inside, place, long));
    zeros = zeros;
  };
}
