-- Streams one after the other.
use Rattle.std.specs.Prelude.{◌≡◌, ◌⊎◌, ℕ, List, [], ◌∷◌, ◌++◌}
use Rattle.base.specs.Bytes.{line_feed}
use Rattle.instants_stream.specs.Steps.{output}
use Rattle.instants_lines.specs.Going.{Going, lines_steps}

-- a stream is empty or ends in a line feed
abbrev pub IsEnded : List ℕ → Type 0
IsEnded stream = (stream ≡ []) ⊎ ((prefix : List ℕ) × (stream ≡ prefix ++ line_feed ∷ []))

-- the output of both joined is that of the first, and after it that of the second with what is kept then
abbrev pub AreJoined : Going → Going → ℕ → List ℕ → List ℕ → Type 0
AreJoined going later limit first second = output lines_steps going limit (first ++ second) ≡ output lines_steps going limit first ++ output lines_steps later limit second
