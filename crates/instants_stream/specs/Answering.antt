-- Lines that are answered each by itself, so that nothing is kept of one for the next.
use Rattle.std.specs.Prelude.{List, ℕ, [], ◌∷◌, ◌++◌, false, codes}
use Rattle.base.specs.Bytes.{line_feed}
use Rattle.instants_stream.specs.Steps.{Steps}

-- the state is the answer as a function of a line, and stays; of a line that is too long nothing is handed on
abbrev pub answering : Steps (List ℕ → List ℕ)
answering = record {
  said = λ answer line. answer line ++ line_feed ∷ [];
  next = λ answer line. answer;
  last_said = λ answer line. answer line ++ line_feed ∷ [];
  begun = λ answer prefix. [];
  within = λ answer prefix. answer;
  hands_on = λ answer. false;
  ended = λ answer. codes "! long" ++ line_feed ∷ [];
  last_ended = λ answer. codes "! long" ++ line_feed ∷ [];
}
