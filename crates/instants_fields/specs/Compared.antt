-- How a name is compared, character by character. Only the crate's private clauses cite it.
use Rattle.std.specs.Prelude.{ℕ, Bool, false, List, [], ◌∷◌, length, take, drop, Option, Some, None, option_map, bytes_eq, if◌then◌else◌}
use Rattle.std.specs.Borrow.{Bor}
use Rattle.std.specs.Char.{encode_utf8}
use Rattle.instants_fields.specs.Strings.{is_high, is_low, pair, is_text, text_after}
use Rattle.instants_fields.specs.declared.string.Character.{Character}
use Rattle.instants_fields.specs.declared.string.Character.TheVariants.{Plain, Escaped}

-- what stands after what a function cut off, whatever value it tells
abbrev pub rest_after : {A : Type 0} → Option (A × Bor (List ℕ)) → Option (List ℕ)
rest_after r = option_map (λ p. p.1.now) r

-- what stands after some bytes
abbrev pub behind : List ℕ → List ℕ → Option (List ℕ)
behind bytes due = if bytes_eq (take (length bytes) due) bytes then Some (drop (length bytes) due) else None

abbrev pub no_surrogate : Option (List ℕ) → Option (Option ℕ × List ℕ)
no_surrogate due = option_map (λ rest. (None, rest)) due

-- after one character: the high surrogate that waits for a low one, and the bytes that are due then
abbrev pub matched : Option ℕ → Character → List ℕ → Option (Option ℕ × List ℕ)
matched None (Plain c) due = no_surrogate (behind (c ∷ []) due)
matched None (Escaped code) due = if is_high code then Some (Some code, due) else (if is_low code then None else no_surrogate (behind (encode_utf8 code) due))
matched (Some high) (Plain c) due = None
matched (Some high) (Escaped code) due = if is_low code then no_surrogate (behind (encode_utf8 (pair high code)) due) else None

-- whether a string says these bytes after a high surrogate or none
abbrev pub says_after : Option ℕ → List ℕ → Option (List Character × List ℕ) → Bool
says_after high due None = false
says_after high due (Some (characters, rest)) = is_text due (text_after high characters)
