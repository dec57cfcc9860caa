-- What follows a fraction of any number of digits, and a window over the end of a text.
use Rattle.std.specs.Prelude.{◌≡◌, ◌&&◌, ◌-◌, Bool, true, false, not, nat_le, List, [], ◌∷◌, None, replicate}
use Rattle.std.specs.Char.{is_ascii_digit}
use Rattle.std.proofs.Common.{refl}
use Rattle.parsing_places.specs.Last.{with_moves}
use Rattle.parsing_places.specs.Lanes.{are_moves}
use Rattle.parsing_places.specs.Windows.{is_offset_bounded, spares_from}
use Rattle.parsing_places.specs.declared.shape.Window.{Window}
use Rattle.parsing_places.specs.declared.windows.Windows.{Windows}
use Rattle.parsing_layout.specs.Layout.{length_of}
use Rattle.parsing_layout.specs.declared.parts.Part.{Part}
use Rattle.parsing_shapes.specs.Shape.{takes_all, takes_part}
use Rattle.parsing_shapes.specs.declared.taker.Taker.{Taker}
use Rattle.parsing_layout.specs.declared.parts.Part.TheVariants as part

-- no digit can be the first byte
abbrev pub begins_apart : List Part → Bool
begins_apart [] = true
begins_apart (part.Byte c ∷ ps) = not (is_ascii_digit c)
begins_apart (part.Sign ∷ ps) = true
begins_apart other = false

-- sixteen bytes alone, as two windows of which the first takes nothing
abbrev pub alone_by : are_moves (replicate 16 128) ≡ true → Window → Windows
alone_by right w = record { prefix = with_moves w (record { lanes = replicate 16 128; right = right }); back = w; back_at = 0 }

abbrev pub alone : Window → Windows
alone w = alone_by refl w

-- what takes the end of a text: its offset
abbrev pub end_by : Windows → Taker
end_by w = record { windows = w; has_clock = false; has_offset = true; length = 16; year = None }

abbrev pub end_of : Window → Taker
end_of w = end_by (alone w)

-- a window's last places were made for the parts
abbrev pub fits_end : Window → List Part → Bool
fits_end w ps = nat_le (length_of ps) 16 && takes_all (takes_part (end_of w)) ps (16 - length_of ps)

-- it takes nothing of a date and a time of day
abbrev pub spares_clock : Window → Bool
spares_clock w = spares_from (alone w) 0 8 && spares_from (alone w) 14 2

-- it takes an offset below twenty hours and its sign, or nothing of one
abbrev pub is_end_bounded : Window → Bool → Bool
is_end_bounded w has_offset = is_offset_bounded (alone w) (not has_offset)
