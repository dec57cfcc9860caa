-- The lines of a stream of bytes.
use Rattle.std.specs.Prelude.{◌≡◌, ℕ, false, List, [], ◌∷◌, ◌++◌, ◌==◌}
use Rattle.std.specs.List.{All, slice_split}
use Rattle.base.specs.Bytes.{line_feed}

-- the lists but the last
abbrev pub but_last : List (List ℕ) → List (List ℕ)
but_last [] = []
but_last (part ∷ []) = []
but_last (part ∷ next ∷ parts) = part ∷ but_last (next ∷ parts)

-- the last list
abbrev pub last : List (List ℕ) → List ℕ
last [] = []
last (part ∷ []) = part
last (part ∷ next ∷ parts) = last (next ∷ parts)

-- the list alone, or nothing where it is empty
abbrev pub if_nonempty : List ℕ → List (List ℕ)
if_nonempty [] = []
if_nonempty (b ∷ bytes) = (b ∷ bytes) ∷ []

-- the parts between line feeds, at least one, as `split(|b| *b == b'\n')` gives them
unfoldable pub parts : List ℕ → List (List ℕ)
parts bytes = slice_split (λ b. b == line_feed) bytes

-- the lines whose line feed stands in the bytes: each part but the last
unfoldable pub whole_lines : List ℕ → List (List ℕ)
whole_lines bytes = but_last (parts bytes)

-- what stands after the last line feed
unfoldable pub last_part : List ℕ → List ℕ
last_part bytes = last (parts bytes)

-- the lines of a whole stream: a last part is a line if it is nonempty
unfoldable pub lines : List ℕ → List (List ℕ)
lines bytes = whole_lines bytes ++ if_nonempty (last_part bytes)

-- no byte is a line feed
abbrev pub HasNoLineFeed : List ℕ → Type 0
HasNoLineFeed bytes = All (λ b. (b == line_feed) ≡ false) bytes
