-- A text of strftime, read from left to right: what it stands for, or the first fault.
use Rattle.std.specs.Prelude.{ℕ, suc, ◌+◌, ◌==◌, Bool, List, [], ◌∷◌, length, take, drop, Option, Some, None, Result, Ok, Err, if◌then◌else◌, codes}
use Rattle.std.specs.List.{prefix_len}
use Rattle.std.specs.Option.{ok_or}
use Rattle.base.specs.Bytes.{percent}
use Rattle.description_modifiers.specs.declared.choices.Padding.{Padding}
use Rattle.description_lexer.specs.Fault.{Fault, InvalidComponentName, Expected, NotSupported}
use Rattle.description_lexer.specs.Answer.{◌>>=◌}
use Rattle.description_items.specs.Tree.{Tree, Literal}
use Rattle.description_lexer.specs.Text.{Rest, after, whole}
use Rattle.description_lexer.specs.Many.{many}
use Rattle.description_lexer.specs.Words.{begins}
use Rattle.description_strftime.specs.Letters.{flag_of, letter_items, refused}
use Rattle.description_strftime.specs.Text.{is_plain, is_continuation, joined}

-- the length of the character at the start
abbrev pub character_len : List ℕ → ℕ
character_len text = 1 + prefix_len is_continuation (drop 1 text)

-- the flag at the start, and what follows it
abbrev pub flag_at : List ℕ → Option Padding
flag_at [] = None
flag_at (b ∷ bs) = flag_of b

abbrev pub past_flag : Option Padding → Rest → Rest
past_flag None here = here
past_flag (Some padding) here = after 1 here

-- what is wrong with a character that stands for nothing
abbrev pub refusal : Option (List ℕ) → Rest → Fault
refusal (Some what) here = NotSupported what (codes "strftime") here.index
refusal None here = InvalidComponentName (take (character_len here.text) here.text) here.index

abbrev pub letter_in : List ℕ → ℕ → Option Padding → Rest → Result (List Tree × Rest) Fault
letter_in [] start flag here = Err (Expected (codes "component letter") start)
letter_in (b ∷ bs) start flag here = ok_or (letter_items flag b) (refusal (refused b) here) >>= λ items. Ok (items, after 1 here)

-- a letter after a percent sign and a flag
unfoldable pub letter_at : ℕ → Option Padding → Rest → Result (List Tree × Rest) Fault
letter_at start flag here = letter_in here.text start flag here

-- what stands after a percent sign
unfoldable pub conversion_at : ℕ → Rest → Result (List Tree × Rest) Fault
conversion_at start here = letter_at start (flag_at here.text) (past_flag (flag_at here.text) here)

abbrev pub plain_len : List ℕ → ℕ
plain_len text = prefix_len is_plain text

-- a conversion, or a literal up to the next percent sign
unfoldable pub strftime_step : Rest → Result (List Tree × Rest) Fault
strftime_step here =
    if begins percent here.text then conversion_at here.index (after 1 here)
    else Ok (Literal (take (plain_len here.text) here.text) ∷ [], after (plain_len here.text) here)

abbrev pub at_end : Rest → Bool
at_end here = length here.text == 0

-- all of a text
unfoldable pub read_strftime : List ℕ → Result (List Tree) Fault
read_strftime text = do
  parts ← many at_end strftime_step (suc (length text)) (whole text)
  Ok (joined parts.0)
