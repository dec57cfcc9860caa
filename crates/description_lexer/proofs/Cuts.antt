-- Where a text may be cut.
use Rattle.std.proofs.Common.{◌≡◌, ℕ, ◌+◌, ◌<◌, ◌≤◌, Bool, true, false, List, length, get_or, arith, drop}
use Rattle.std.specs.List.{prefix_len}
use Rattle.std.specs.Str.{IsUtf8, IsCharBoundary}
use Rattle.std.proofs.lemmas.List.Sums.{prefix_len_passes, prefix_len_stops, prefix_len-le-length}
use Rattle.std.proofs.lemmas.Bool.Decides.{nat_tests}
use Rattle.std.proofs.lemmas.Bool.{cases_lt}
use Rattle.std.proofs.lemmas.Str.{IsCharBoundary-before_ascii, IsCharBoundary-after_ascii, IsCharBoundary-start}
use Rattle.std.proofs.Common.{inl, inr, zero, suc, subst, refl, add-one}
use Rattle.std.proofs.Common.{eqb}
use Rattle.std.specs.Prelude.{IsTrue}
use Rattle.std.proofs.lemmas.List.{length-drop, get_or-drop}
use Rattle.description_lexer.specs.declared.version.DescriptionVersion.{DescriptionVersion}
use Rattle.description_lexer.specs.declared.version.DescriptionVersion.TheVariants.{One, Two, Three}
use Rattle.description_lexer.specs.Text.{is_space, is_word_byte, is_plain, is_no_colon}

-- a run that only an ASCII byte ends
pub cut_before : (p : ℕ → Bool) (s : List ℕ) → ((b : ℕ) → p b ≡ false → b < 128) → IsCharBoundary s (prefix_len p s)
cut_before p s ascii =
    elim (cases_lt (prefix_len p s) (length s)) [
      | inl lt ↦ IsCharBoundary-before_ascii s (prefix_len p s) lt (ascii _ (prefix_len_stops p s 0 lt))
      | inr le ↦ (prefix_len-le-length p s, λ lt. absurd (omega arith))
    ]

-- a run of ASCII bytes
pub cut_after : (p : ℕ → Bool) (s : List ℕ) (n : ℕ) → prefix_len p s ≡ n → IsUtf8 s → ((b : ℕ) → p b ≡ true → b < 128) → IsCharBoundary s n
cut_after p s zero e utf8 ascii = IsCharBoundary-start s utf8
cut_after p s (suc n) e utf8 ascii =
    let le : prefix_len p s ≤ length s = prefix_len-le-length p s in
    let lt : n < prefix_len p s = omega arith in
    let here : get_or s n 0 < 128 = ascii _ (prefix_len_passes p s n 0 lt) in
    subst (IsCharBoundary s) (add-one n) (IsCharBoundary-after_ascii s n utf8 (omega arith) here)

pub space_ascii : (b : ℕ) → is_space b ≡ true → b < 128
space_ascii b h = grind (arith, nat_tests)

pub word_ascii : (b : ℕ) → is_word_byte b ≡ false → b < 128
word_ascii b h = grind (arith, nat_tests)

pub colon_ascii : (b : ℕ) → is_no_colon b ≡ false → b < 128
colon_ascii b h = grind (arith, nat_tests)

pub word_cut : (s : List ℕ) → IsCharBoundary s (prefix_len is_word_byte s)
word_cut s = cut_before is_word_byte s word_ascii

pub space_cut : (s : List ℕ) → IsUtf8 s → IsCharBoundary s (prefix_len is_space s)
space_cut s utf8 = cut_after is_space s _ refl utf8 space_ascii

pub colon_cut : (s : List ℕ) → IsCharBoundary s (prefix_len is_no_colon s)
colon_cut s = cut_before is_no_colon s colon_ascii

pub past_colon : (s : List ℕ) (n : ℕ) → n ≡ prefix_len is_no_colon s → IsUtf8 s → n < length s → IsCharBoundary s (n + 1)
past_colon s n e utf8 lt =
    let here : is_no_colon (get_or s (prefix_len is_no_colon s) 0) ≡ false = prefix_len_stops is_no_colon s 0 (omega arith) in
    let ascii : get_or s (prefix_len is_no_colon s) 0 < 128 = colon_ascii _ here in
    IsCharBoundary-after_ascii s n utf8 lt (rw e ascii)

-- what is not plain is ASCII
pub plain_ascii : (v : DescriptionVersion) (b : ℕ) → is_plain v b ≡ false → b < 128
plain_ascii One b h = grind (arith, nat_tests)
plain_ascii Two b h = grind (arith, nat_tests)
plain_ascii Three b h = grind (arith, nat_tests)

pub literal_len_le : (v : DescriptionVersion) (s : List ℕ) → 0 < length s → 1 + prefix_len (is_plain v) (drop 1 s) ≤ length s
literal_len_le v s some = omega (arith, prefix_len-le-length (is_plain v) (drop 1 s), length-drop 1 s)

pub literal_cut : (v : DescriptionVersion) (s : List ℕ) → 0 < length s → IsCharBoundary s (1 + prefix_len (is_plain v) (drop 1 s))
literal_cut v s some =
    let le = literal_len_le v s some in
    let k : ℕ = prefix_len (is_plain v) (drop 1 s) in
    elim (cases_lt (1 + k) (length s)) [
      | inl lt ↦
          let in_rest : k < length (drop 1 s) = omega (arith, length-drop 1 s) in
          let stops : is_plain v (get_or (drop 1 s) k 0) ≡ false = prefix_len_stops (is_plain v) (drop 1 s) 0 in_rest in
          let here : get_or s (1 + k) 0 < 128 = rw (← get_or-drop 1 s k 0) (plain_ascii v _ stops) in
          IsCharBoundary-before_ascii s (1 + k) lt here
      | inr past ↦ (le, λ lt. absurd (omega arith))
    ]

pub first_cut : (s : List ℕ) (b : ℕ) → IsUtf8 s → 0 < length s → IsTrue (eqb (get_or s 0 0) b) → b < 128 → IsCharBoundary s 1
first_cut s b utf8 some is_b lt =
    let here : get_or s 0 0 < 128 = grind (arith, nat_tests) in
    IsCharBoundary-after_ascii s 0 utf8 some here
