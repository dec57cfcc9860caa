-- Words that stand in one text.
use Rattle.std.specs.Prelude.{ℕ, Option, None, Some, List, [], ◌==◌}
use Rattle.std.specs.List.{slice_split}
use Rattle.std.specs.Borrow.{Bor}
use Rattle.base.specs.Bytes.{line_feed}

-- the words between line feeds, at least one
unfoldable pub words_in : List ℕ → List (List ℕ)
words_in text = slice_split (λ b. b == line_feed) text

-- the words of a text, if there is one
abbrev pub words_left : Option (Bor (List ℕ)) → List (List ℕ)
words_left None = []
words_left (Some text) = words_in text.now
