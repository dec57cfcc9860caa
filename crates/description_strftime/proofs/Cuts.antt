-- Where a text of strftime may be cut.
use Rattle.std.proofs.Common.{◌≡◌, ℕ, ◌+◌, ◌<◌, ◌≤◌, false, List, length, get_or, arith, drop, inl, inr}
use Rattle.std.specs.List.{prefix_len}
use Rattle.std.specs.Str.{IsUtf8, IsCharBoundary}
use Rattle.std.proofs.lemmas.List.Sums.{prefix_len_stops, prefix_len-le-length}
use Rattle.std.proofs.lemmas.List.{length-drop, get_or-drop}
use Rattle.std.proofs.lemmas.Bool.Decides.{nat_tests}
use Rattle.std.proofs.lemmas.Bool.{cases_lt}
use Rattle.std.proofs.lemmas.Str.{IsCharBoundary-before_ascii, IsCharBoundary-after_ascii}
use Rattle.description_strftime.specs.Text.{is_plain, is_continuation}

-- after a first byte of ASCII
pub ascii_cut : (s : List ℕ) → IsUtf8 s → 0 < length s → get_or s 0 0 < 128 → IsCharBoundary s 1
ascii_cut s utf8 some here = IsCharBoundary-after_ascii s 0 utf8 some here

percent_ascii : (b : ℕ) → is_plain b ≡ false → b < 128
percent_ascii b h = grind (arith, nat_tests)

-- before a percent sign
pub plain_cut : (s : List ℕ) → IsCharBoundary s (prefix_len is_plain s)
plain_cut s =
    elim (cases_lt (prefix_len is_plain s) (length s)) [
      | inl lt ↦ IsCharBoundary-before_ascii s (prefix_len is_plain s) lt (percent_ascii _ (prefix_len_stops is_plain s 0 lt))
      | inr le ↦ (prefix_len-le-length is_plain s, λ lt. absurd (omega arith))
    ]

begins_character : (b : ℕ) → is_continuation b ≡ false → 128 ≤ b → 192 ≤ b
begins_character b h le = grind (arith, nat_tests)

pub character_le : (s : List ℕ) → 0 < length s → 1 + prefix_len is_continuation (drop 1 s) ≤ length s
character_le s some = omega (arith, prefix_len-le-length is_continuation (drop 1 s), length-drop 1 s)

-- after the character at the start
pub character_cut : (s : List ℕ) → 0 < length s → IsCharBoundary s (1 + prefix_len is_continuation (drop 1 s))
character_cut s some = (character_le s some, λ lt ascii. go lt ascii)
  where
    k : ℕ
    k = prefix_len is_continuation (drop 1 s)

    go : 1 + k < length s → 128 ≤ get_or s (1 + k) 0 → 192 ≤ get_or s (1 + k) 0
    go lt le =
        let in_rest : k < length (drop 1 s) = omega (arith, length-drop 1 s) in
        let stops : is_continuation (get_or (drop 1 s) k 0) ≡ false = prefix_len_stops is_continuation (drop 1 s) 0 in_rest in
        let same : get_or (drop 1 s) k 0 ≡ get_or s (1 + k) 0 = get_or-drop 1 s k 0 in
        omega (arith, begins_character (get_or (drop 1 s) k 0) stops (omega arith))
