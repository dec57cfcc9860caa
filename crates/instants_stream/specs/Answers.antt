-- What is written for a stream of bytes. The answer to a line is a function of its bytes.
use Rattle.std.specs.Prelude.{ℕ, Bool, List, [], ◌∷◌, ◌++◌, length, nat_lt, if◌then◌else◌, codes}
use Rattle.std.specs.List.{flat_map}
use Rattle.base.specs.Bytes.{line_feed}
use Rattle.instants_stream.specs.Lines.{lines, whole_lines}
use Rattle.instants_stream.specs.Writing.{Writing}

-- the answer to a line, or that it is too long, and a line feed
unfoldable pub answer_or_long : (List ℕ → List ℕ) → Bool → List ℕ → List ℕ
answer_or_long answer is_long line = (if is_long then codes "! long" else answer line) ++ line_feed ∷ []

-- what is written for one line
unfoldable pub answered : (List ℕ → List ℕ) → ℕ → List ℕ → List ℕ
answered answer limit line = answer_or_long answer (nat_lt limit (length line)) line

-- what is written for a whole stream
unfoldable pub output : (List ℕ → List ℕ) → ℕ → List ℕ → List ℕ
output answer limit stream = flat_map (answered answer limit) (lines stream)

-- what is owed as soon as these bytes were read: the answers to the lines whose line feed was read
unfoldable pub owed : (List ℕ → List ℕ) → ℕ → List ℕ → List ℕ
owed answer limit bytes = flat_map (answered answer limit) (whole_lines bytes)

-- what there is to write where each line is answered so, under a limit
abbrev pub by_answers : (List ℕ → List ℕ) → ℕ → Writing
by_answers answer limit = record { output = output answer limit; owed = owed answer limit }
