-- Where the pieces of a text stand.
use Rattle.std.proofs.Common.{◌≡◌, ℕ, zero, suc, ◌+◌, ◌-◌, ◌<◌, ◌==◌, Bool, true, false, cond, leb, List, [], ◌∷◌, length, get_or, take, drop, Some, None, refl, sym, ap, ◌∙◌, arith, length-drop}
use Rattle.std.specs.Str.Parse.{digits_value}
use Rattle.std.proofs.lemmas.List.{drop-drop, get_or-drop}
use Rattle.parsing_combinator.specs.Pieces.{digits, digit_count, byte, any_byte, skip_of}
use Rattle.parsing_combinator.proofs.FractionDigits.{cut_of}
use Rattle.parsing_iso8601.proofs.Pieces.{same}
use Rattle.parsing.specs.TwoFormats.{last_byte}

-- so many digits, their number and the rest
pub digits_place : (n : ℕ) (bytes : List ℕ) (v : ℕ) (rest : List ℕ) → digits n bytes ≡ Some (v, rest) → (digits_value 10 (take n bytes) ≡ v) × (drop n bytes ≡ rest)
unfolding digits
digits_place n bytes v rest e =
    let p : (digits_value 10 (take n bytes), drop n bytes) ≡ (v, rest) = (cut_of (leb n (digit_count bytes)) (digits_value 10 (take n bytes), drop n bytes) (v, rest) e).1 in
    (ap (λ (x : ℕ × List ℕ). x.0) p, ap (λ (x : ℕ × List ℕ). x.1) p)

-- one byte
pub byte_place : (a : ℕ) (bytes rest : List ℕ) → byte a bytes ≡ Some (tt, rest) → drop 1 bytes ≡ rest
unfolding skip_of
byte_place a [] rest e = absurd (cc)
byte_place a (c ∷ cs) rest e = ap (λ (x : Unit {0} × List ℕ). x.1) (cut_of (c == a) (tt, cs) (tt, rest) e).1

pub any_place : (bytes rest : List ℕ) → any_byte bytes ≡ Some (tt, rest) → bytes ≡ get_or bytes 0 0 ∷ rest
unfolding skip_of
any_place [] rest e = absurd (cc)
any_place (c ∷ cs) rest e = ap (λ (t : List ℕ). c ∷ t) (ap (λ (x : Unit {0} × List ℕ). x.1) (same (tt, cs) (tt, rest) e))

-- a rest after a rest
pub further : (n m : ℕ) (bytes between rest : List ℕ) → drop n bytes ≡ between → drop m between ≡ rest → drop (n + m) bytes ≡ rest
further n m bytes between rest e f = sym (drop-drop m n bytes) ∙ ap (drop m) e ∙ f

-- the byte at a place is the first one after it
pub byte_at : (n : ℕ) (bytes : List ℕ) → get_or bytes n 0 ≡ get_or (drop n bytes) 0 0
byte_at n bytes = let at : n + 0 ≡ n = omega arith in sym (get_or-drop n bytes 0 0 ∙ ap (λ (k : ℕ). get_or bytes k 0) at)

-- the last byte is the last one of each rest
pub last_of_rest : (n : ℕ) (bytes : List ℕ) → 0 < length (drop n bytes) → last_byte bytes ≡ last_byte (drop n bytes)
last_of_rest n bytes some =
    let at : n + (length (drop n bytes) - 1) ≡ length bytes - 1 = omega (arith, length-drop n bytes) in
    sym (get_or-drop n bytes (length (drop n bytes) - 1) 0 ∙ ap (λ (k : ℕ). get_or bytes k 0) at)
