-- What stands in brackets, read from left to right: a value and what follows it, or the first fault.
use Rattle.std.specs.Prelude.{ℕ, suc, ◌+◌, ◌==◌, ◌||◌, not, Bool, false, List, [], ◌∷◌, length, take, drop, Result, Ok, Err, if◌then◌else◌, codes}
use Rattle.std.specs.List.{prefix_len}
use Rattle.std.specs.Str.{bytes_eq, str_eq_ignore_ascii_case}
use Rattle.base.specs.Bytes.{left_bracket, backslash, right_bracket}
use Rattle.description_lexer.specs.Fault.{Fault, UnclosedOpeningBracket, InvalidModifier, MissingComponentName, Expected}
use Rattle.description_lexer.specs.Answer.{◌>>=◌}
use Rattle.description_lexer.specs.declared.version.DescriptionVersion.{DescriptionVersion}
use Rattle.description_lexer.specs.declared.version.DescriptionVersion.TheVariants.{One, Two, Three}
use Rattle.description_lexer.specs.Text.{Rest, is_space, is_word_byte, is_plain, is_no_colon, run, past, after}
use Rattle.description_lexer.specs.Many.{many}

-- a modifier, cut at its first colon
pub record Modifier : Type 0 where
  pub key : Rest
  pub value : Rest

-- whether a word is this one; versions 1 and 2 ignore the case of ASCII letters
abbrev pub is_named : DescriptionVersion → List ℕ → List ℕ → Bool
is_named One word name = str_eq_ignore_ascii_case word name
is_named Two word name = str_eq_ignore_ascii_case word name
is_named Three word name = bytes_eq word name

abbrev pub begins : ℕ → List ℕ → Bool
begins b [] = false
begins b (c ∷ cs) = c == b

abbrev pub has_word : Rest → Bool
has_word here = not (prefix_len is_word_byte here.text == 0)

-- a word with a colon, a key before it and a value after it
unfoldable pub modifier_in : Rest → Result Modifier Fault
modifier_in word =
    if prefix_len is_no_colon word.text == length word.text then Err (InvalidModifier word.text word.index)
    else (if prefix_len is_no_colon word.text == 0 then Err (InvalidModifier [] word.index)
    else (if prefix_len is_no_colon word.text + 1 == length word.text then Err (InvalidModifier [] (word.index + length word.text))
    else Ok (record { key = run is_no_colon word; value = after (prefix_len is_no_colon word.text + 1) word })))

-- the modifier after the white space
unfoldable pub modifier_at : Rest → Result (Modifier × Rest) Fault
modifier_at here = do
  modifier ← modifier_in (run is_word_byte (past is_space here))
  Ok (modifier, past is_word_byte (past is_space here))

abbrev pub no_modifier : Rest → Bool
no_modifier here = not (has_word (past is_space here))

-- modifiers, each with white space before it, and the white space after the last
unfoldable pub modifiers_at : Rest → Result (List Modifier × Rest) Fault
modifiers_at here = do
  all ← many no_modifier modifier_at (suc (length here.text)) here
  Ok (all.0, past is_space all.1)

-- the name after a bracket
unfoldable pub name_at : ℕ → Rest → Result (Rest × Rest) Fault
name_at bracket here =
    if has_word (past is_space here) then Ok (run is_word_byte (past is_space here), past is_word_byte (past is_space here))
    else Err (MissingComponentName (if prefix_len is_space here.text == 0 then bracket else here.index))

unfoldable pub closed_at : ℕ → Rest → Result Rest Fault
closed_at bracket here = if begins right_bracket here.text then Ok (after 1 here) else Err (UnclosedOpeningBracket bracket)

abbrev pub is_escape : List ℕ → Bool
is_escape text = begins left_bracket text || begins backslash text || begins right_bracket text

-- a backslash and what it takes as it stands
unfoldable pub escape_at : Rest → Result (List ℕ × Rest) Fault
escape_at here =
    if is_escape (after 1 here).text then Ok (take 1 (after 1 here).text, after 1 (after 1 here))
    else Err (Expected (codes "valid escape sequence") here.index)

-- a literal's length: its first byte, and what it goes on with
abbrev pub literal_len : DescriptionVersion → List ℕ → ℕ
literal_len v text = 1 + prefix_len (is_plain v) (drop 1 text)
