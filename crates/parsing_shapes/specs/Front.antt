-- Whether a shape, and what is read beside it, were made for parts.
use Rattle.std.specs.Prelude.{◌&&◌, ◌==◌, ℕ, Bool, List, if◌then◌else◌}
use Rattle.parsing_shapes.specs.Beside.{is_beside, stands}
use Rattle.parsing_layout.specs.Layout.{field_of, length_of}
use Rattle.parsing_layout.specs.declared.parts.Part.{Part}
use Rattle.parsing_shapes.specs.Shape.{taker_of, takes_all, takes_part}
use Rattle.parsing_shapes.specs.declared.front.Beside.{Beside}
use Rattle.parsing_shapes.specs.declared.shape.Shape.{Shape}
use Rattle.parsing_shapes.specs.declared.taker.Taker.{Taker}

-- lanes take a part, or it is read beside them
unfoldable pub takes_beside : Taker → Beside → Part → ℕ → Bool
takes_beside t b p at = if is_beside b (field_of p) then stands b p at else takes_part t p at

abbrev pub fits_beside : Shape → Beside → List Part → Bool
fits_beside s b ps = takes_all (takes_beside (taker_of s) b) ps 0 && (length_of ps == s.length)
