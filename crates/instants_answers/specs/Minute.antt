-- The text of a minute of the day.
use Rattle.std.specs.Prelude.{ℕ, ◌/◌, ◌%◌, List, ◌++◌, codes}
use Rattle.parsing_values.specs.Decimal.{decimal}

-- as it stands between a date and a second
unfoldable pub minute_text : ℕ → List ℕ
minute_text minute = codes "T" ++ decimal 2 (minute / 60) ++ codes ":" ++ decimal 2 (minute % 60) ++ codes ":"
