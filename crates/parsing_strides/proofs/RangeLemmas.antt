-- Numbers in their ranges.
use Rattle.std.proofs.Common.{◌≤◌, ◌<◌, ◌+◌, ℕ, get_or, arith, lit<}
use Rattle.parsing_layout.specs.Range.{IsAllInRange}
use Rattle.parsing_layout.specs.Said.{place_of}
use Rattle.parsing_layout.specs.declared.parts.Field.TheVariants as field
use Rattle.parsing_places.specs.Lanes.{above}
use Rattle.parsing_strides.specs.Found.{values_in}
use Rattle.parsing_strides.specs.declared.found.Found.{Found}
use Rattle.parsing_strides.specs.declared.found.TheConstants.{LEAST, WIDTH}

within : (byte low width : ℕ) → byte < 256 → above byte low ≤ width → low + width < 256 → (low ≤ byte) × (byte ≤ low + width)
within byte low width small le sum = (omega (arith, small, le, sum), omega (arith, small, le, sum))

module _ (found : Found) (lies : (k : ℕ) → k < 16 → above (get_or found.lanes k 0) (get_or LEAST k 0) ≤ get_or WIDTH k 0)
    (small : (k : ℕ) → get_or found.lanes k 0 < 256) (unix_few : found.unix ≤ 9_999_999_999) where
  pub in_range : IsAllInRange (values_in found)
  in_range field.Year = (omega arith, omega (arith, found.four_digits))
  in_range field.Nanosecond = (omega arith, omega (arith, found.below_a_second))
  in_range field.Unix = (omega arith, unix_few)
  in_range f = within (get_or found.lanes (place_of f) 0) (get_or LEAST (place_of f) 0) (get_or WIDTH (place_of f) 0) (small (place_of f)) (lies (place_of f) (lit< tt)) (lit< tt)
