-- What is written for lines in memory.
use Rattle.std.specs.Prelude.{◌≡◌, ℕ, List}
use Rattle.instants_stream.specs.Lines.{lines}
use Rattle.instants_stream.specs.Steps.{output}
use Rattle.instants_lines.specs.Below.{below_above, below_all, indent_above, key_above}
use Rattle.instants_lines.specs.Going.{Going, near, lines_steps}
use Rattle.instants_lines.specs.declared.above.Above.{Above}

-- the output of the program for an input, where this is above it
abbrev pub keys_of : Going → Above → List ℕ → List ℕ
keys_of begins above input = output lines_steps (below_above above begins) (near begins.mode begins.search) input

-- what lines below an input take of it and of what is above it
pub record IsAboveAfter (begins : Going) (above : Above) (input : List ℕ) (after : Above) : Type 0 where
  pub some : after.state ≡ 0 → ⊥
  pub key : key_above after ≡ (below_all (below_above above begins) (lines input)).key
  pub indent : indent_above after ≡ (below_all (below_above above begins) (lines input)).indent
