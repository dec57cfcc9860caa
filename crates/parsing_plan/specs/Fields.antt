-- The fields of the sums of a line.
use Rattle.std.specs.Prelude.{◌≡◌, ◌≤◌, ◌<◌, ◌+◌, ◌*◌, ◌/◌, ◌%◌, nat_eq, ℕ, Bool, true, false, List, drop, Option, Some, Ok, IsSome, ℤ, pos, ◌*ℤ◌}
use Rattle.parsing_combinator.specs.Pieces.{digits}
use Rattle.parsing_components.specs.Prefix.{beginning}
use Rattle.parsing_components.specs.Whole.{offset_named}
use Rattle.parsing_values.specs.declared.fields.Fields.{Fields}
use Rattle.parsing_shapes.specs.Beside.{AreRead, IsFraction}
use Rattle.parsing_shapes.specs.declared.front.Beside.{Beside}
use Rattle.parsing_shapes.specs.declared.shape.Shape.{Shape}
use Rattle.parsing_values.specs.Resolution.{signed_offset_of}

-- minutes are those of sums with a sign, or the offset that is assumed
abbrev pub IsOffset : Bool → ℕ → ℕ → Option ℤ → ℤ → Type 0
IsOffset true offsets seconds assumed o = (hour minute : ℕ) → offsets ≡ 60 * hour + minute → hour ≤ 23 → minute ≤ 59 → signed_offset_of (nat_eq (seconds % 4) 2) hour minute ≡ Ok (pos 60 *ℤ o)
IsOffset false offsets seconds assumed o = offset_named (beginning assumed) ≡ Ok (pos 60 *ℤ o)

-- fields are those of four sums, of what is read beside them, of a fraction that was found, and of the offset
pub record AreFieldsOf (s : Shape) (b : Beside) (text : List ℕ) (days minutes offsets seconds : ℕ) (found : Option ℕ) (assumed : Option ℤ) (f : Fields) : Type 0 where
  pub weekday : ℕ
  pub year_is : digits 4 (drop s.year text) ≡ Some (f.year, drop (s.year + 4) text)
  pub read : AreRead b text days f.month f.day weekday
  pub weekday_few : IsSome b.weekday → (1 ≤ weekday) × (weekday ≤ 7)
  pub minute_is : f.minute ≡ minutes
  pub second_is : f.second ≡ seconds / 64
  pub fraction_is : IsFraction found b.fraction text f.fraction
  pub fraction_few : f.fraction < 1_000_000_000
  pub offset_is : IsOffset b.has_offset offsets seconds assumed f.offset
  pub even : seconds % 2 ≡ 0
