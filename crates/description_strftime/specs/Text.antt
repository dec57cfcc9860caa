-- Bytes of a text of strftime, and lists of items.
use Rattle.std.specs.Prelude.{ℕ, ◌==◌, ◌&&◌, not, nat_le, nat_lt, Bool, List, [], ◌∷◌, ◌++◌}
use Rattle.base.specs.Bytes.{percent}
use Rattle.description_items.specs.Tree.{Tree}
pub use Rattle.description_lexer.specs.Text.{Each, Stops}

-- what a literal is made of: all but the percent sign
abbrev pub is_plain : ℕ → Bool
is_plain b = not (b == percent)

-- a byte of a character, after its first one
abbrev pub is_continuation : ℕ → Bool
is_continuation b = nat_le 128 b && nat_lt b 192

-- lists of items, one after the other
abbrev pub joined : List (List Tree) → List Tree
joined [] = []
joined (part ∷ parts) = part ++ joined parts
