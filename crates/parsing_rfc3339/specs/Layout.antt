-- The layout of RFC 3339.
use Rattle.std.specs.Prelude.{List, [], ◌∷◌, ◌++◌}
use Rattle.base.specs.Bytes.{hyphen, colon}
use Rattle.parsing_layout.specs.declared.parts.Part.{Part}
use Rattle.parsing_layout.specs.declared.parts.Field.TheVariants as field
use Rattle.parsing_layout.specs.declared.parts.Part.TheVariants.{Byte, Any, Digits}

-- `1985-04-12`, `23:20:50`
abbrev pub date_parts : List Part
date_parts = Digits field.Year 4 ∷ Byte hyphen ∷ Digits field.Month 2 ∷ Byte hyphen ∷ Digits field.Day 2 ∷ []

abbrev pub clock_parts : List Part
clock_parts = Digits field.Hour 2 ∷ Byte colon ∷ Digits field.Minute 2 ∷ Byte colon ∷ Digits field.Second 2 ∷ []

-- both, with any byte between them
abbrev pub front_parts : List Part
front_parts = date_parts ++ Any ∷ clock_parts
