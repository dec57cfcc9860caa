-- What lines take of those above them, where it is handed in.
use Rattle.std.specs.Prelude.{ℕ, ◌==◌, min, List, [], ◌∷◌, ◌++◌, take, Option, None, Some, if◌then◌else◌}
use Rattle.base.specs.Bytes.{line_feed}
use Rattle.instants_lines.specs.Going.{Going, below, keyed}
use Rattle.instants_lines.specs.declared.above.Above.{Above}

-- the key that a line without a date takes
abbrev pub key_above : Above → List ℕ
key_above above = take (min above.len 63) above.key

-- how deep the last line with a date begins
abbrev pub indent_above : Above → Option ℕ
indent_above above = if above.state == 1 then None else Some above.indent

-- what lines are written by below those
unfoldable pub below_above : Above → Going → Going
below_above above going = if above.state == 0 then going else record going { key = key_above above; indent = indent_above above }

-- what lines are written by below all of these
unfoldable pub below_all : Going → List (List ℕ) → Going
below_all going [] = going
below_all going (line ∷ others) = below_all (below going line) others

-- the texts of lines after their keys, one after another
unfoldable pub keyed_all : Going → List (List ℕ) → List ℕ
keyed_all going [] = []
keyed_all going (line ∷ others) = (keyed going line ++ line_feed ∷ []) ++ keyed_all (below going line) others
