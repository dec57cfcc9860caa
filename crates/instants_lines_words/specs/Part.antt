-- The part of a line in which its date is looked for.
use Rattle.std.specs.Prelude.{ℕ, List}
use Rattle.instants_lines_words.specs.declared.line_part.LinePart.{LinePart}
use Rattle.instants_lines_words.specs.declared.line_part.LinePart.TheVariants as parts

-- the value of the member of this name, where the line is an object in JSON, or the column of this number, from 1, with this byte between columns
pub data PartSaid : Type 0 where
  InField : List ℕ → PartSaid
  InColumn : ℕ → ℕ → PartSaid

-- the same, without where the name lies in memory
abbrev pub part_of : LinePart → PartSaid
part_of (parts.Field name) = InField name.now
part_of (parts.Column number separator) = InColumn number separator
