-- Digits that end at a place of a line.
use Rattle.std.proofs.Common.{◌≡◌, ℕ, ◌+◌, ◌-◌, ◌*◌, ◌/◌, ◌^◌, ◌<◌, ◌≤◌, List, length, get_or, take, drop, replicate, Fits, w64, refl, sym, ap, ◌∙◌, arith, take-append-drop}
use Rattle.std.specs.Int.{from_le_bytes}
use Rattle.std.proofs.lemmas.List.{length-take-le, length-drop, take_all, drop-take, drop-drop}
use Rattle.parsing_combinator.specs.Chunks.{chunk, padded, AreEightDigits, IsOfDigits}
use Rattle.parsing_combinator.proofs.Lanes.{take_fit, chunk_eight}
use Rattle.parsing_combinator.proofs.PaddingLemmas.{chunk_append, chunk_below, drop_fit, padded_below, padded_counted}
use Rattle.std.proofs.lemmas.Bool.Decides.{nat_tests}

-- the number of bytes without the first few
chunk_tail : (xs : List ℕ) (m : ℕ) → m ≤ length xs → ((k : ℕ) → get_or xs k 0 < 256) → chunk xs / 2 ^ (8 * m) ≡ chunk (drop m xs)
chunk_tail xs m within fit =
    let prefix : length (take m xs) ≡ m = length-take-le m xs within in
    let parts : chunk xs ≡ chunk (take m xs) + chunk (drop m xs) * 2 ^ (8 * m) = ap chunk (sym (take-append-drop m xs)) ∙ chunk_append (take m xs) (drop m xs) ∙ rw prefix refl in
    grind (arith, nat_tests, chunk_below, take_fit)

module _ (line : List ℕ) (end count : ℕ) (room : 8 ≤ end) (within : end ≤ length line) (few : count ≤ 8) (fit : (k : ℕ) → get_or line k 0 < 256) where
  abbrev eight : List ℕ
  eight = take 8 (drop (end - 8) line)

  abbrev rest : List ℕ
  rest = drop (end - count) line

  rest_long : count ≤ length rest
  rest_long = omega (arith, length-drop (end - count) line)

  eight_long : length eight ≡ 8
  eight_long = length-take-le 8 (drop (end - 8) line) (omega (arith, length-drop (end - 8) line))

  word_is : from_le_bytes w64 eight ≡ chunk eight
  word_is = omega (arith, rw (take_all 8 eight (omega (arith, eight_long))) at (chunk_eight eight (omega (arith, eight_long))))

  tail : drop (8 - count) eight ≡ take count rest
  tail =
      let whole : 8 - count + count ≡ 8 = omega arith in
      let at : end - 8 + (8 - count) ≡ end - count = omega arith in
      ap (λ (n : ℕ). drop (8 - count) (take n (drop (end - 8) line))) (sym whole) ∙ drop-take (8 - count) count (drop (end - 8) line) ∙ ap (take count) (drop-drop (8 - count) (end - 8) line ∙ ap (λ (n : ℕ). drop n line) at)

  -- what the shift leaves, with zeros after it
  pub number : from_le_bytes w64 eight / 2 ^ (8 * (8 - count)) + chunk (replicate (8 - count) 48) * 2 ^ (8 * count) ≡ chunk (padded count rest)
  number =
      let zeros : List ℕ = replicate (8 - count) 48 in
      let eight_fit = take_fit 8 (drop (end - 8) line) (drop_fit (end - 8) line fit) in
      let shifted : from_le_bytes w64 eight / 2 ^ (8 * (8 - count)) ≡ chunk (take count rest) = rw word_is (chunk_tail eight (8 - count) (omega (arith, eight_long)) eight_fit ∙ ap chunk tail) in
      rw shifted (sym (chunk_append (take count rest) zeros ∙ rw (length-take-le count rest rest_long) refl))

  pub number_fits : Fits w64 (chunk (padded count rest))
  number_fits = padded_below rest count few rest_long (drop_fit (end - count) line fit)

  pub of_digits : (x : ℕ) → 0 < count → x ≡ chunk (padded count rest) → AreEightDigits x → IsOfDigits rest x count
  of_digits x some is test = record {
    some = some;
    few = few;
    within = rest_long;
    number_is = is;
    digits_are = padded_counted rest count few rest_long (drop_fit (end - count) line fit) (rw is at test);
  }
