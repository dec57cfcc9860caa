-- The moment that a text of ISO 8601 names, where it has an offset.
use Rattle.std.specs.Prelude.{◌≡◌, ℕ, List, Ok}
use Rattle.std.specs.Option.{IsSome}
use Rattle.datetime_wall.specs.Wall.{Shown}
use Rattle.parsing_combinator.specs.Readings.{value_read}
use Rattle.parsing_values.specs.NamedMoment.{named_moment}
use Rattle.parsing_iso8601.specs.declared.written.Iso8601Parts.{Iso8601Parts}
use Rattle.parsing_iso8601.specs.Parts.{parts_of, offset_parts_of}
use Rattle.parsing_iso8601.specs.Reading.{whole}

-- the whole text is read and has an offset, and its parts name the moment
pub record IsOfOffset (bytes : List ℕ) (m : Shown) : Type 0 where
  pub written : Iso8601Parts
  pub read : value_read (whole bytes) ≡ Ok written
  pub offset : IsSome written.offset
  pub named : named_moment (parts_of written) (offset_parts_of written) ≡ Ok m
