-- Bytes of which one is no white space, and where such a byte begins and ends what is trimmed.
use Rattle.std.proofs.Common.{◌≡◌, ◌<◌, ◌≤◌, ◌+◌, ◌-◌, ◌∙◌, inl, inr, ℕ, false, List, ◌++◌, length, get_or, take, drop, sym, ap, arith}
use Rattle.std.specs.Prelude.{reverse}
use Rattle.std.specs.Char.{is_ascii_whitespace}
use Rattle.std.specs.List.{suffix_len}
use Rattle.std.proofs.Math.Seq.{take-append-add, take-append_seam}
use Rattle.std.proofs.lemmas.Bool.{both_ways, cases_lt}
use Rattle.std.proofs.lemmas.List.{get_or-append-add, get_or-drop, get_or-reverse, get_or_append_left, length-append, length-drop}
use Rattle.std.proofs.lemmas.List.Sums.{prefix_len_passes, suffix_len-le-length}
use Rattle.instants_edges.specs.Pieces.{blanks, trimmed_length}

-- one of the bytes is no white space
pub record HasMark (bytes : List ℕ) : Type 0 where
  pub place : ℕ
  pub within : place < length bytes
  pub is : is_ascii_whitespace (get_or bytes place 0) ≡ false

pub mark_before : (xs ys : List ℕ) → HasMark xs → HasMark (xs ++ ys)
mark_before xs ys mark =
    let within = mark.within in
    let moved = get_or_append_left xs ys 0 mark.place within in
    record { place = mark.place; within = omega (arith, within, length-append xs ys); is = ap is_ascii_whitespace moved ∙ mark.is }

pub mark_after : (xs ys : List ℕ) → HasMark ys → HasMark (xs ++ ys)
mark_after xs ys mark =
    let within = mark.within in
    let moved = get_or-append-add xs ys mark.place 0 in
    record { place = length xs + mark.place; within = omega (arith, within, length-append xs ys); is = ap is_ascii_whitespace moved ∙ mark.is }

pub mark_dropped : (n : ℕ) (bytes : List ℕ) → HasMark (drop n bytes) → HasMark bytes
mark_dropped n bytes mark =
    let within = mark.within in
    let moved = sym (get_or-drop n bytes mark.place 0) in
    record { place = n + mark.place; within = omega (arith, within, length-drop n bytes); is = ap is_ascii_whitespace moved ∙ mark.is }

-- ---- what is trimmed

few_blanks : (bytes : List ℕ) (place : ℕ) → is_ascii_whitespace (get_or bytes place 0) ≡ false → blanks bytes ≤ place
unfolding blanks
few_blanks bytes place mark =
    elim (cases_lt place (blanks bytes)) [
      | inl lt ↦ absurd (both_ways _ mark (prefix_len_passes is_ascii_whitespace bytes place 0 lt))
      | inr le ↦ le
    ]

long_trimmed : (bytes : List ℕ) (place : ℕ) → place < length bytes → is_ascii_whitespace (get_or bytes place 0) ≡ false → place < trimmed_length bytes
unfolding trimmed_length
long_trimmed bytes place within mark =
    let white = suffix_len is_ascii_whitespace bytes in
    let back = length bytes - 1 - place in
    elim (cases_lt back white) [
      | inl lt ↦
          let there = prefix_len_passes is_ascii_whitespace (reverse bytes) back 0 lt in
          let moved = get_or-reverse bytes back 0 (omega (arith, within)) in
          let same : length bytes - 1 - back ≡ place = omega (arith, within) in
          let passes = ap is_ascii_whitespace (sym (moved ∙ ap (λ (k : ℕ). get_or bytes k 0) same)) ∙ there in
          absurd (both_ways _ mark passes)
      | inr le ↦ omega (arith, within, le, suffix_len-le-length is_ascii_whitespace bytes)
    ]

-- what stands between white space after a beginning and white space before a rest is not empty
pub trimmed_between : (front middle rest : List ℕ) → HasMark middle → length front + blanks (middle ++ rest) < trimmed_length (front ++ middle)
trimmed_between front middle rest mark =
    let place = mark.place in
    let within = mark.within in
    let is = mark.is in
    let all = length-append front middle in
    let few = few_blanks (middle ++ rest) place (ap is_ascii_whitespace (get_or_append_left middle rest 0 place within) ∙ is) in
    let moved = ap is_ascii_whitespace (get_or-append-add front middle place 0) ∙ is in
    let long = long_trimmed (front ++ middle) (length front + place) (omega (arith, within, all)) moved in
    omega (arith, few, long)

-- the bytes with which a text begins that ends so
pub first_bytes : (front middle rest : List ℕ) → take (length front + length middle) (front ++ (middle ++ rest)) ≡ front ++ middle
first_bytes front middle rest =
    take-append-add front (middle ++ rest) (length middle) ∙ ap (λ (bytes : List ℕ). front ++ bytes) (take-append_seam middle rest)
