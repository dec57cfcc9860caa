-- What the three kinds of instants of one record have to do with one another.
use Rattle.std.specs.Prelude.{ℕ, ℤ}
use Rattle.parsing_values.specs.Laws.{IsWhole, IsOneInstant}
use Rattle.parsing_components.specs.declared.fields.Record.{Record}
use Rattle.parsing_record.specs.Parts.{offset_parts, moment_parts}
use Rattle.parsing_record.specs.Whole.{moment_named, utc_named, timestamp_named}

-- a record that names a date, a time of day and an offset, of which the calendar has the day in UTC, names one instant of each kind, or none of any kind
abbrev pub HasOneInstant : Record → Type 0
HasOneInstant r = (date time : ℕ) (offset : ℤ) → IsWhole (moment_parts r) (offset_parts r) date time offset → IsOneInstant (moment_named r) (utc_named r) (timestamp_named r)
