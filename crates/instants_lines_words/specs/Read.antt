-- What reading the words gives.
use Rattle.std.specs.Prelude.{◌≡◌, ℕ, List, Err, IsOk}
use Rattle.instants_lines_words.specs.Words.{mode_words_said}
use Rattle.instants_lines_words.specs.Wrong.{wrong_of}
use Rattle.instants_lines_words.specs.declared.words_fault.ModeWordsFault.{ModeWordsFault}
use Rattle.instants_lines_words.specs.declared.words_fault.ModeWordsFault.TheVariants as fault

-- the words are refused so: they are wrong, or there is no memory for a list of words that are accepted
abbrev pub IsRefusedAs : List (List ℕ) → ModeWordsFault → Type 0
IsRefusedAs words (fault.Wrong wrong) = mode_words_said words ≡ Err (wrong_of wrong)
IsRefusedAs words fault.Memory = IsOk (mode_words_said words)
