-- Bytes, runs of bytes, and where they stand.
use Rattle.std.specs.Prelude.{◌≡◌, ℕ, ◌+◌, ◌==◌, ◌||◌, not, Bool, true, false, List, [], ◌∷◌, take, drop}
use Rattle.std.specs.List.{prefix_len}
use Rattle.base.specs.Bytes.{tab, line_feed, form_feed, carriage_return, space, colon, left_bracket, backslash, right_bracket}
use Rattle.description_lexer.specs.declared.version.DescriptionVersion.{DescriptionVersion}
use Rattle.description_lexer.specs.declared.version.DescriptionVersion.TheVariants.{One, Two, Three}

-- SP, TAB, LF, FF, CR
abbrev pub is_space : ℕ → Bool
is_space b = b == space || b == tab || b == line_feed || b == form_feed || b == carriage_return

abbrev pub is_bracket : ℕ → Bool
is_bracket b = b == left_bracket || b == right_bracket

-- what a name or a modifier is made of
abbrev pub is_word_byte : ℕ → Bool
is_word_byte b = not (is_space b || is_bracket b)

-- what a literal goes on with
abbrev pub is_plain : DescriptionVersion → ℕ → Bool
is_plain One b = not (is_bracket b)
is_plain Two b = not (is_bracket b || b == backslash)
is_plain Three b = not (is_bracket b || b == backslash)

abbrev pub is_no_colon : ℕ → Bool
is_no_colon b = not (b == colon)

-- what is left of a text, or a part of it, and where it begins in the whole text
pub record Rest : Type 0 where
  pub index : ℕ
  pub text : List ℕ

abbrev pub whole : List ℕ → Rest
whole text = record { index = 0; text = text }

-- the run of such bytes at the start
abbrev pub run : (ℕ → Bool) → Rest → Rest
run p here = record { index = here.index; text = take (prefix_len p here.text) here.text }

-- what follows it
abbrev pub past : (ℕ → Bool) → Rest → Rest
past p here = record { index = here.index + prefix_len p here.text; text = drop (prefix_len p here.text) here.text }

-- without the first n bytes
abbrev pub after : ℕ → Rest → Rest
after n here = record { index = here.index + n; text = drop n here.text }

-- each byte passes
abbrev pub Each : (ℕ → Bool) → List ℕ → Type 0
Each p [] = Unit {0}
Each p (b ∷ bs) = (p b ≡ true) × Each p bs

-- no such byte stands at the start
abbrev pub Stops : (ℕ → Bool) → List ℕ → Type 0
Stops p [] = Unit {0}
Stops p (b ∷ bs) = p b ≡ false
