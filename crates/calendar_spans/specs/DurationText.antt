-- A duration as text: its parts that are not 0, each a number and its unit.
use Rattle.std.specs.Prelude.{ℕ, ◌/◌, ◌%◌, ◌==◌, if◌then◌else◌, List, [], ◌∷◌, ◌++◌, codes, ℤ, pos, unsigned_abs, int_lt}
use Rattle.std.specs.Fmt.{decimal}
use Rattle.calendar_spans.specs.Duration.{second_nanos}

abbrev pub part_text : ℕ → List ℕ → List ℕ
part_text n unit = if n == 0 then [] else decimal n ++ unit

-- `µs` in UTF-8
abbrev pub micros_unit : List ℕ
micros_unit = 194 ∷ 181 ∷ codes "s"

-- whole seconds in days, hours, minutes and seconds
unfoldable pub seconds_text : ℕ → List ℕ
seconds_text n =
    part_text (n / 86_400) (codes "d") ++ part_text (n / 3600 % 24) (codes "h") ++ part_text (n / 60 % 60) (codes "m") ++ part_text (n % 60) (codes "s")

-- nanoseconds of a second in milliseconds, microseconds and nanoseconds
unfoldable pub nanoseconds_text : ℕ → List ℕ
nanoseconds_text n =
    part_text (n / 1_000_000) (codes "ms") ++ part_text (n / 1000 % 1000) micros_unit ++ part_text (n % 1000) (codes "ns")

-- `-1d2h3m4s5ms1ns`, `0s`
abbrev pub duration_text : ℤ → List ℕ
duration_text z =
    let length = unsigned_abs z in
    if length == 0 then codes "0s"
    else (if int_lt z (pos 0) then codes "-" else []) ++ seconds_text (length / second_nanos) ++ nanoseconds_text (length % second_nanos)
