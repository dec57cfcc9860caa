-- Numbers by their digits.
use Rattle.std.proofs.Common.{◌≡◌, ℕ, ◌+◌, ◌-◌, ◌*◌, ◌<◌, Bool, true, false, List, [], ◌∷◌, ◌++◌, length, take, get_or, refl, ap, ◌∙◌}
use Rattle.std.specs.Prelude.{filter, if◌then◌else◌}
use Rattle.std.specs.Char.{is_ascii_digit}
use Rattle.std.specs.Str.Parse.{digits_value}
use Rattle.std.proofs.lemmas.Int.Digits.{digits_value_push}
use Rattle.std.proofs.lemmas.List.{append-nil}
use Rattle.std.proofs.lemmas.List.Elements.{filter_more}
use Rattle.instants_words.proofs.WordLemmas.{digit_is}

-- the number of the digits among bytes
abbrev pub of_digits : List ℕ → ℕ
of_digits bytes = digits_value 10 (filter is_ascii_digit bytes)

one_more : (digits : List ℕ) (byte : ℕ) (b : Bool) → is_ascii_digit byte ≡ b
    → digits_value 10 (digits ++ (if b then byte ∷ [] else []))
    ≡ (if b then digits_value 10 digits * 10 + (byte - 48) else digits_value 10 digits)
one_more digits byte true e = digits_value_push 10 digits byte ∙ ap (λ (n : ℕ). digits_value 10 digits * 10 + n) (digit_is byte e).0
one_more digits byte false e = ap (digits_value 10) (append-nil digits)

pub next_digit : (bytes : List ℕ) (i : ℕ) → i < length bytes
    → of_digits (take (i + 1) bytes)
    ≡ (if is_ascii_digit (get_or bytes i 0) then of_digits (take i bytes) * 10 + (get_or bytes i 0 - 48) else of_digits (take i bytes))
next_digit bytes i h =
    rw (filter_more is_ascii_digit bytes i 0 h)
    (one_more (filter is_ascii_digit (take i bytes)) (get_or bytes i 0) (is_ascii_digit (get_or bytes i 0)) refl)
