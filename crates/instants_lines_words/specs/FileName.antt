-- The looks of a file's name.
use Rattle.std.specs.Prelude.{ℕ, Bool, false, ◌||◌, ◌==◌, List, [], ◌∷◌}
use Rattle.std.specs.List.{list_any}
use Rattle.base.specs.Bytes.{dot}

-- a word begins with a slash
abbrev pub has_slash_before : List ℕ → Bool
has_slash_before [] = false
has_slash_before (first ∷ rest) = first == 47

-- a word looks like the name of a file: it has a dot, or a slash before
unfoldable pub is_file_name : List ℕ → Bool
is_file_name word = list_any (λ b. b == dot) word || has_slash_before word
