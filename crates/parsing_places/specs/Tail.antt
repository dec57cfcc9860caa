-- How an offset is written.
use Rattle.std.specs.Prelude.{Bool, true, false, not}
use Rattle.parsing_places.specs.declared.ending.Ending.{Ending}
use Rattle.parsing_places.specs.declared.ending.Ending.TheVariants.{Zulu, Colon, Plain}

-- the byte that ends an offset is a `Z`, or no such one
abbrev pub is_zulu : Ending → Bool
is_zulu Zulu = true
is_zulu other = false

-- whether an offset that has a colon or none is written so
abbrev pub is_written : Bool → Ending → Bool
is_written has_colon Zulu = true
is_written has_colon Colon = has_colon
is_written has_colon Plain = not has_colon
