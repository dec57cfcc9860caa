-- What a source never names, and nobody gives: such a source finds no date in any line.
use Rattle.std.specs.Prelude.{Bool, ◌&&◌, ◌||◌, not, true, false, Option, None, Some, is_some, if◌then◌else◌}
use Rattle.instants_sources.specs.Grammar.{Grammar, Described, Written}
use Rattle.instants_prefixes.specs.Given.{Given, Years, Unknown, In, Near}
use Rattle.instants_prefixes.specs.Kinds.{is_of}
use Rattle.instants_prefixes.specs.Reading.{written_has}
use Rattle.instants_prefixes.specs.declared.kind.Kind.{Kind}
use Rattle.instants_prefixes.specs.declared.kind.Kind.TheVariants as kind
pub use Rattle.instants_prefixes.specs.declared.lacks.Lack.{Lack}
pub use Rattle.instants_prefixes.specs.declared.lacks.Lack.TheVariants.{Year, Day, Time, Offset}

-- a component of a kind may stand in a description
abbrev pub may : Kind → Written → Bool
may kind written = written_has true (is_of kind) written

-- one always stands there, outside of all choices
abbrev pub always : Kind → Written → Bool
always kind written = written_has false (is_of kind) written

abbrev pub is_known : Years → Bool
is_known Unknown = false
is_known (In year) = true
is_known (Near above) = true

-- ---- dates

-- the year that is given takes the place of one that need not stand there
abbrev pub takes_year : Given → Written → Bool
takes_year given written = is_known given.years && not (always kind.Year written || always kind.IsoYear written || always kind.Century written)

-- a year by all of its digits, given, or by its century and its last two
abbrev pub has_year : Given → Written → Bool
has_year given written = may kind.Year written || takes_year given written || (may kind.Century written && may kind.LastTwo written)

-- a year of the weeks of ISO 8601, likewise: one is given by its last two digits alone
abbrev pub has_iso_year : Given → Written → Bool
has_iso_year given written = may kind.IsoYear written || (takes_year given written && may kind.LastTwo written) || (may kind.Century written && may kind.LastTwo written)

abbrev pub has_day : Written → Bool
has_day written = may kind.Ordinal written || (may kind.Month written && may kind.Day written) || (may kind.Week written && may kind.Weekday written)

abbrev pub has_date : Given → Written → Bool
has_date given written = (has_year given written && has_day written) || (has_iso_year given written && (may kind.IsoWeek written && may kind.Weekday written))

-- ---- times of day

-- a part of a time of day always stands there
abbrev pub always_time : Written → Bool
always_time written = (always kind.Hour24 written || always kind.Hour12 written) || (always kind.Half written || always kind.Minute written) || (always kind.Second written || always kind.Subsecond written)

-- an hour of the whole day, or one of a half day and which half, neither with seconds that have no minutes nor with a fraction that has no seconds; or a time that is given in place of one of which no part need stand there
abbrev pub has_time : Given → Written → Bool
has_time given written =
    ((may kind.Hour24 written || (may kind.Hour12 written && may kind.Half written)) && not ((always kind.Second written && not (may kind.Minute written)) || (always kind.Subsecond written && not (may kind.Second written))))
    || (is_some given.time && not (always_time written))

-- ---- what is lacking

-- what a description lacks to name a moment, the first of these; the well-known formats have all that a moment needs
unfoldable pub lack : Given → Grammar → Option Lack
lack given (Described written) =
    if may kind.UnixTime written then None
    else if not (has_year given written || has_iso_year given written) then Some Year
    else if not (has_date given written) then Some Day
    else if not (has_time given written) then Some Time
    else if not (may kind.OffsetHour written || is_some given.offset) then Some Offset
    else None
lack given _ = None
