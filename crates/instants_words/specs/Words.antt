-- What all words say, or the first thing wrong with them.
use Rattle.std.specs.Prelude.{ℕ, Option, None, Some, Result, Ok, Err, List, ◌∷◌}
use Rattle.instants_words.specs.declared.fault.WordsFault.{WordsFault}
use Rattle.instants_words.specs.declared.fault.WordsFault.TheVariants.{Usage, Target, Assumed, Limit}
use Rattle.instants_words.specs.declared.words.Words.{Words}
use Rattle.instants_words.specs.Pieces.{offset_said, assumed_said, limit_said}
use Rattle.instants_words.specs.Sources.{sources_said}

-- what a word says, or else the fault
infixl 12 ◌or◌
abbrev pub ◌or◌ : {A : Type 0} → Option A → WordsFault → Result A WordsFault
(Some said) or fault = Ok said
None or fault = Err fault

-- one thing and then the next, up to the first fault
infixl 10 ◌>>=◌
abbrev pub ◌>>=◌ : {A B : Type 0} → Result A WordsFault → (A → Result B WordsFault) → Result B WordsFault
(Ok said) >>= next = next said
(Err fault) >>= next = Err fault

-- a target, an assumed offset, a limit and sources, looked at in this order; there are at least four words
unfoldable pub words_said : List (List ℕ) → Result Words WordsFault
words_said (target_word ∷ assumed_word ∷ limit_word ∷ source_word ∷ others) = do
  target ← offset_said target_word or Target
  assumed ← assumed_said assumed_word or Assumed
  limit ← limit_said limit_word or Limit
  sources ← sources_said 1 (source_word ∷ others)
  Ok (record { target = target; assumed = assumed; limit = limit; sources = sources })
words_said _ = Err Usage
