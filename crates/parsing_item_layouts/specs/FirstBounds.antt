-- Lines that have a byte outside of its range, or more bytes than are read.
use Rattle.std.specs.Prelude.{◌≡◌, ◌⊎◌, ℕ, Bool, true, false, List, Option, None}
use Rattle.std.specs.Option.{IsSomeAnd}
use Rattle.std.specs.Result.{result_ok}
use Rattle.parsing_layout.specs.Bounds.{Admits}
use Rattle.parsing_components.specs.Meaning.{Meaning}
use Rattle.parsing_components.specs.declared.fields.Record.{Record}
use Rattle.parsing_components.specs.Whole.{whole}
use Rattle.parsing_item_layouts.specs.declared.first_bounds.FirstBounds.{FirstBounds}

-- a line is within the bounds, or within those of lines with a sign
abbrev pub IsWithin : Bool → FirstBounds → List ℕ → Type 0
IsWithin all b line = Admits all b.usual line ⊎ IsSomeAnd b.signed (λ s. Admits all s line)

-- it begins otherwise than all that is within them
abbrev pub IsOutside : FirstBounds → List ℕ → Type 0
IsOutside b line = ¬ IsWithin false b line

-- it does, or it is too long
abbrev pub IsOutsideWhole : FirstBounds → List ℕ → Type 0
IsOutsideWhole b line = ¬ IsWithin true b line

-- a line is not read as a whole, whatever record reading begins with
abbrev pub ReadsNoneWhole : Meaning → List ℕ → Type 0
ReadsNoneWhole m line = (defaults : Option Record) → result_ok (whole m defaults line) ≡ None

-- what is outside is refused
pub record AreBoundsOf (m : Meaning) (b : FirstBounds) : Type 0 where
  pub outside : (line : List ℕ) → IsOutside b line → (r : Record) → result_ok (m r line) ≡ None
  pub too_long : (line : List ℕ) → IsOutsideWhole b line → ReadsNoneWhole m line
