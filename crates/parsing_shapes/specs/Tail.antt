-- What may follow a date and a time of day: a fraction of a second, then an offset.
use Rattle.std.specs.Prelude.{zero, suc, ◌≡◌, ◌+◌, ◌-◌, ◌==◌, ◌&&◌, ◌||◌, ℕ, Bool, true, not, nat_le, nat_lt, List, [], ◌∷◌, set, if◌then◌else◌}
use Rattle.std.proofs.lemmas.Bool.{agree_below}
use Rattle.base.specs.Bytes.{dot, colon, upper_z, lower_z}
use Rattle.parsing_places.specs.Last.{with_moves}
use Rattle.parsing_places.specs.Tail.{is_zulu}
use Rattle.parsing_places.specs.Windows.{lets, spares, takes}
use Rattle.parsing_places.specs.declared.ending.Ending.{Ending}
use Rattle.parsing_places.specs.declared.ending.Ending.TheVariants.{Zulu, Colon, Plain}
use Rattle.parsing_places.specs.declared.lanes.Moves.{Moves}
use Rattle.parsing_places.specs.declared.shape.Window.{Window}
use Rattle.parsing_shapes.specs.End.{fits_end, is_end_bounded, spares_clock}
use Rattle.parsing_layout.specs.declared.parts.Part.{Part}
use Rattle.parsing_layout.specs.declared.parts.Field.TheVariants as field
use Rattle.parsing_layout.specs.declared.parts.Part.TheVariants as part

-- a point and digits, in so many bytes, if there are any
abbrev pub fraction_parts : ℕ → List Part
fraction_parts zero = []
fraction_parts (suc count) = part.Byte dot ∷ part.Fraction count ∷ []

-- `Z`, `+05:30`, or `+0530`
abbrev pub zone_parts : Ending → List Part
zone_parts Zulu = part.Byte upper_z ∷ []
zone_parts Colon = part.Sign ∷ part.Digits field.OffsetHour 2 ∷ part.Byte colon ∷ part.Digits field.OffsetMinute 2 ∷ []
zone_parts Plain = part.Sign ∷ part.Digits field.OffsetHour 2 ∷ part.Digits field.OffsetMinute 2 ∷ []

-- `z`
abbrev pub small_parts : List Part
small_parts = part.Byte lower_z ∷ []

-- a window takes an offset, or nothing of one, and nothing else
pub record IsEnd (w : Window) : Type 0 where
  pub has_offset : Bool
  pub clock : spares_clock w ≡ true
  pub offset : is_end_bounded w has_offset ≡ true

-- ---- the tails of a table

-- where an offset begins, and which row of three it has
abbrev pub offset_at : Ending → ℕ
offset_at Zulu = 15
offset_at Colon = 10
offset_at Plain = 11

abbrev pub tail_row : Ending → ℕ
tail_row Zulu = 0
tail_row Plain = 1
tail_row Colon = 2

-- a byte that ends no such offset: `0`, or else `Z`
abbrev pub other_end : Ending → ℕ
other_end e = if is_zulu e then 48 else 90

-- whether a fraction can have so many bytes: none, or its point and one to nine digits
abbrev pub is_fraction : ℕ → Bool
is_fraction bytes = nat_le bytes 10 && not (bytes == 1)

-- a lane takes one of so many digits that end at a place, or nothing
abbrev pub takes_digit : Window → ℕ → ℕ → ℕ → Bool
takes_digit w at count k = if nat_lt k count then takes w k (at - count + k) 9 else spares w k

-- other lanes take a fraction of so many bytes, its point among them, that ends at a place
abbrev pub takes_fraction : Window → Moves → ℕ → ℕ → Bool
takes_fraction w digits at bytes = (nat_lt (bytes - 1) at && ((bytes == 0) || lets w (at - bytes) dot 0)) && agree_below (takes_digit (with_moves w digits) at (bytes - 1)) (λ _. true) 16

-- and a window takes the zone after it, and nothing else
abbrev pub is_tail : Window → Moves → ℕ → ℕ → List Part → Bool → Bool
is_tail w digits at bytes zone is_utc = (fits_end w zone && (spares_clock w && is_end_bounded w (not is_utc))) && takes_fraction w digits at bytes

-- the same bounds, with another byte at the end
abbrev pub ending_in : ℕ → Window → Window
ending_in last w = record { low = set w.low 15 last; high = w.high; taken = w.taken }

-- what a row of the table is for so many bytes: where no fraction has as many, no text has it, and with a small `z` in the place of `Z` it is a tail too
abbrev pub is_row : Window → Moves → Ending → ℕ → Bool
is_row w digits e bytes =
    if is_fraction bytes
    then is_tail w digits (offset_at e) bytes (zone_parts e) (is_zulu e) && (not (is_zulu e) || is_tail (ending_in lower_z w) digits 15 bytes small_parts true)
    else lets w 15 (other_end e) 0
