-- What is found in a line by a format.
use Rattle.std.specs.Prelude.{ℕ, Bool, true, false, not, is_ok, pos, Option, None, Some, Ok}
use Rattle.instants_prefixes.specs.declared.given.Given.{Given}
use Rattle.instants_prefixes.specs.declared.given.Years.TheVariants.{Unknown, In}
use Rattle.instants_formats.specs.declared.format.Lacking.{Lacking}
use Rattle.instants_formats.specs.declared.format.Lacking.TheVariants.{Nothing, Utc, Offset, YearAndOffset, TimeAndOffset}
use Rattle.instants_found.specs.declared.found.Found.{Found}
use Rattle.instants_found.specs.declared.found.Finding.{Finding}
use Rattle.instants_found.specs.declared.found.Finding.TheVariants.{There}
use Rattle.instants_timeline.specs.Place.{shown_or_refused}

-- the most bytes of a stream that are looked at
abbrev pub most : ℕ
most = 1_048_576

-- what is given to the dates of a format that lacks it: the offset +00:00, the year 2024, midnight
abbrev pub given_for : Lacking → Given
given_for Nothing = record { offset = None; zone = None; years = Unknown; time = None }
given_for Utc = record { offset = Some (pos 0); zone = None; years = Unknown; time = None }
given_for Offset = record { offset = Some (pos 0); zone = None; years = Unknown; time = None }
given_for YearAndOffset = record { offset = Some (pos 0); zone = None; years = In (pos 2024); time = None }
given_for TimeAndOffset = record { offset = Some (pos 0); zone = None; years = Unknown; time = Some 0 }

-- the date's year at the target +00:00 is written, and not `! year`
abbrev pub is_written : Found → Bool
is_written date = is_ok (shown_or_refused (pos 0) (Ok date.moment))

-- the line has a date that is written
abbrev pub is_dated : Option Finding → Bool
is_dated (Some (There date)) = is_written date
is_dated _ = false

-- it has one whose year is not written
abbrev pub is_unwritten : Option Finding → Bool
is_unwritten (Some (There date)) = not (is_written date)
is_unwritten _ = false

-- its date is in doubt
abbrev pub is_doubtful : Option Finding → Bool
is_doubtful None = false
is_doubtful (Some (There date)) = false
is_doubtful (Some _) = true
