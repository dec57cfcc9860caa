-- Lines after keys and labels, and without them.
use Rattle.std.specs.Prelude.{◌≡◌, ℕ, ◌+◌, ◌==◌, not, true, List, drop, Option, None, Some, IfSome}
use Rattle.std.specs.List.{prefix_len}
use Rattle.base.specs.Bytes.{tab}
pub use Rattle.instants_lines_words.specs.Words.{is_field}

-- a label, where there is one, has no tab and no line feed
abbrev pub IsLabel : Option (List ℕ) → Type 0
IsLabel label = IfSome label (λ text. is_field text ≡ true)

-- what stands after the first tab
abbrev pub without_key : List ℕ → List ℕ
without_key line = drop (prefix_len (λ byte. not (byte == tab)) line + 1) line

-- what stands after the key, and after the label where there is one
abbrev pub without_fields : Option (List ℕ) → List ℕ → List ℕ
without_fields None line = without_key line
without_fields (Some label) line = without_key (without_key line)
