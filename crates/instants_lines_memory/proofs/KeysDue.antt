-- Lines that are written after their keys, one after another.
use Rattle.std.proofs.Common.{◌≡◌, ℕ, ◌+◌, ◌==◌, ◌≤◌, true, false, List, [], ◌∷◌, ◌++◌, take, drop, length, refl, sym, ap, ◌∙◌, append-nil}
use Rattle.std.specs.Prelude.{if◌then◌else◌}
use Rattle.base.specs.Bytes.{tab, line_feed}
use Rattle.instants_stream.specs.Lines.{lines}
use Rattle.instants_stream.specs.Steps.{output}
use Rattle.instants_lines.specs.Below.{below_above, below_all, indent_above, key_above, keyed_all}
use Rattle.instants_lines.specs.Going.{Going, below, has_keys, key_of_line, label_prefix, near, lines_steps}
use Rattle.instants_lines.specs.declared.above.Above.{Above}
use Rattle.instants_lines.proofs.Keyed.{key_and_tab}
use Rattle.instants_lines.proofs.KeyedLines.{keyed_output}
use Rattle.instants_lines_memory.specs.Over.{keys_of}

-- what is due for an input, line by line
pub keys_are : (begins : Going) (above : Above) (input : List ℕ) → has_keys begins.mode ≡ true → keys_of begins above input ≡ keyed_all (below_above above begins) (lines input)
unfolding below_above
keys_are begins above input keys =
    let later : Going = record begins { key = key_above above; indent = indent_above above } in
    elim (above.state == 0) as (λ none. let going : Going = if none then begins else later in output lines_steps going (near begins.mode begins.search) input ≡ keyed_all going (lines input)) [
      | true ↦ keyed_output begins input keys
      | false ↦ keyed_output later input keys
    ]

-- the label is that of the beginning
pub same_label : (begins : Going) (above : Above) → (below_above above begins).label ≡ begins.label
unfolding below_above
same_label begins above =
    elim (above.state == 0) as (λ none. (if none then begins else record begins { key = key_above above; indent = indent_above above }).label ≡ begins.label) [ true ↦ refl | false ↦ refl ]

module _ (going : Going) (rest after : List ℕ) (line : List ℕ) (first : lines rest ≡ line ∷ lines after) where
  -- what lines below take, by the next line
  pub next_below : below_all going (lines rest) ≡ below_all (below going line) (lines after)
  unfolding below_all
  next_below = ap (below_all going) first

  -- the text for the next line
  pub next_keyed : (key label : List ℕ) → key ≡ key_of_line going line ++ tab ∷ [] → label_prefix going.label ≡ label
      → keyed_all going (lines rest) ≡ (key ++ (label ++ (line ++ line_feed ∷ []))) ++ keyed_all (below going line) (lines after)
  unfolding keyed_all
  next_keyed key label key_is label_is =
      ap (keyed_all going) first
      ∙ ap (λ (text : List ℕ). text ++ keyed_all (below going line) (lines after))
      (ap (λ (prefix : List ℕ). (key_of_line going line ++ tab ∷ (prefix ++ line)) ++ line_feed ∷ []) label_is ∙ key_and_tab (key_of_line going line) key label line key_is)

-- no line is left
pub none_keyed : (going : Going) (rest : List ℕ) → lines rest ≡ [] → keyed_all going (lines rest) ≡ []
unfolding keyed_all
none_keyed going rest none = ap (keyed_all going) none

pub none_below : (going : Going) (rest : List ℕ) → lines rest ≡ [] → below_all going (lines rest) ≡ going
unfolding below_all
none_below going rest none = ap (below_all going) none
