-- Bytes that begin in no form of a list, by their first byte.
use Rattle.std.proofs.Common.{◌≡◌, ◌∙◌, ℕ, suc, ◌+◌, ◌-◌, ◌<◌, ◌≤◌, ◌==◌, Bool, true, false, List, [], ◌∷◌, length, take, drop, get_or, if◌then◌else◌, sym, ap, refl, arith}
use Rattle.std.specs.List.{prefix_len}
use Rattle.std.proofs.lemmas.List.{get_or-drop, length-drop}
use Rattle.std.specs.Prelude.{codes}
use Rattle.std.specs.Char.{is_ascii_alphabetic, is_ascii_digit, is_ascii_lowercase, to_ascii_lowercase}
use Rattle.std.proofs.Math.Bool.{and-false}
use Rattle.std.proofs.lemmas.Bool.Decides.{nat_tests}
use Rattle.instants_edges.specs.Edge.{is_sign}
use Rattle.instants_edges.specs.Beside.{is_offset, word_after}
use Rattle.instants_edges.specs.Words.{fits, begin_so, begun, word, signs, names_of_utc, halves, clocks}

-- a form is no longer than what begins in it
pub too_short : (form bytes : List ℕ) → length bytes < length form → begin_so form bytes ≡ false
unfolding begin_so
too_short [] bytes h = absurd (omega (arith, h))
too_short (mark ∷ form) [] h = refl
too_short (mark ∷ form) (byte ∷ bytes) h = rw (too_short form bytes (omega (arith, h))) (and-false (fits mark byte))

-- a byte that is no letter is no other one in small
pub no_other : (mark byte : ℕ) → is_ascii_lowercase mark ≡ false → (byte == mark) ≡ false → (to_ascii_lowercase byte == mark) ≡ false
no_other mark byte small other = grind (arith, nat_tests)

pub no_sign : (bytes : List ℕ)
    → is_sign (get_or bytes 0 0) ≡ false → (get_or bytes 0 0 == 226) ≡ false → (get_or bytes 0 0 == 92) ≡ false → begun signs bytes ≡ 0
unfolding begun begin_so
no_sign [] sign minus escape = refl
no_sign (byte ∷ bytes) sign minus escape = rw (sign, no_other 226 byte refl minus, no_other 92 byte refl escape) refl

-- the first byte is not this letter
abbrev pub IsNo : ℕ → List ℕ → Type 0
IsNo letter bytes = (to_ascii_lowercase (get_or bytes 0 0) == letter) ≡ false

pub no_utc : (bytes : List ℕ) → IsNo 117 bytes → IsNo 103 bytes → IsNo 122 bytes → word names_of_utc bytes ≡ 0
unfolding word begin_so
no_utc [] u g z = refl
no_utc (byte ∷ bytes) u g z = rw (u, g, z) refl

pub no_utc_inside : (bytes : List ℕ) → IsNo 117 bytes → IsNo 103 bytes → IsNo 122 bytes → word (codes "utc" ∷ codes "gmt" ∷ codes "z" ∷ []) bytes ≡ 0
unfolding word begin_so
no_utc_inside [] u g z = refl
no_utc_inside (byte ∷ bytes) u g z = rw (u, g, z) refl

-- a digit begins no offset inside of a date, nor does a point, a slash or a colon
pub no_offset : (is_other : Bool) (line : List ℕ) (place : ℕ) → 46 ≤ get_or line place 0 → get_or line place 0 ≤ 58 → is_offset is_other line place ≡ false
no_offset is_other line place low high =
    let first : ℕ = get_or (drop place line) 0 0 in
    let at : first ≡ get_or line place 0 = get_or-drop place line 0 0 ∙ ap (λ i. get_or line i 0) (omega arith) in
    let sign : is_sign (get_or line place 0) ≡ false = grind (arith, nat_tests, low, high) in
    let small : to_ascii_lowercase first ≡ first = grind (arith, nat_tests, low, high, at) in
    let u : IsNo 117 (drop place line) = rw small (grind (arith, nat_tests, high, at)) in
    let g : IsNo 103 (drop place line) = rw small (grind (arith, nat_tests, high, at)) in
    let z : IsNo 122 (drop place line) = rw small (grind (arith, nat_tests, high, at)) in
    rw (sign, no_utc_inside (drop place line) u g z) (and-false is_other)

pub no_half : (bytes : List ℕ) → IsNo 97 bytes → IsNo 112 bytes → word halves bytes ≡ 0
unfolding word begin_so
no_half [] a p = refl
no_half (byte ∷ bytes) a p = rw (a, p) refl

pub no_clock : (bytes : List ℕ) → is_ascii_digit (get_or bytes 0 0) ≡ false → begun clocks bytes ≡ 0
unfolding begun begin_so
no_clock [] digit = refl
no_clock (byte ∷ bytes) digit = rw digit refl

one-more : (n : ℕ) → 1 + n ≡ suc n
one-more n = omega arith

begins : (bytes : List ℕ) (first : ℕ) → first ≡ get_or bytes 0 0 → get_or (take (prefix_len is_ascii_alphabetic bytes) bytes) 0 first ≡ first
begins [] first is = refl
begins (byte ∷ bytes) first is = elim (is_ascii_alphabetic byte) as (λ b. get_or (take (if b then 1 + prefix_len is_ascii_alphabetic bytes else 0) (byte ∷ bytes)) 0 first ≡ first) [
  | true ↦ rw (one-more (prefix_len is_ascii_alphabetic bytes)) (sym is)
  | false ↦ refl
]

-- a word begins with the first byte that is left, if it has one
pub word_begins : (bytes : List ℕ) (from first : ℕ) → first ≡ get_or bytes from 0
    → get_or (take (prefix_len is_ascii_alphabetic (drop from bytes)) (drop from bytes)) 0 first ≡ first
word_begins bytes from first is = begins (drop from bytes) first (is ∙ sym (get_or-drop from bytes 0 0 ∙ ap (λ k. get_or bytes k 0) (omega arith)))

over_space : (bytes : List ℕ) (first : ℕ) → get_or bytes 0 0 ≡ 32 → 2 ≤ length bytes → first ≡ get_or bytes 1 0 → get_or (word_after bytes 0) 0 first ≡ first
unfolding word_after
over_space [] first space long is = absurd (omega (arith, long))
over_space (byte ∷ []) first space long is = absurd (omega (arith, long))
over_space (byte ∷ next ∷ rest) first space long is = rw space (begins (next ∷ take 46 rest) first is)

-- neither a colour nor a fraction begins with a space, over which a word begins with the next byte
pub word_over_space : (line : List ℕ) (ends first : ℕ) → ends ≤ length line → 2 ≤ length line - ends → get_or line ends 0 ≡ 32 → first ≡ get_or line (ends + 1) 0
    → get_or (word_after line ends) 0 first ≡ first
unfolding word_after
word_over_space line ends first within long space is =
    over_space (drop ends line) first
    (get_or-drop ends line 0 0 ∙ ap (λ k. get_or line k 0) (omega arith) ∙ space) (omega (arith, length-drop ends line, within, long))
    (is ∙ sym (get_or-drop ends line 1 0))
