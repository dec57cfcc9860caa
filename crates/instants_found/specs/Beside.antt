-- Why a date that a source reads at a place does not stand whole in its line, if it does not.
use Rattle.std.specs.Prelude.{ℕ, ◌+◌, ◌&&◌, ◌||◌, not, is_some, Bool, List, drop, Option, None, Some, unwrap_or, if◌then◌else◌, ℤ, pos}
use Rattle.std.specs.Option.{is_none, option_or}
use Rattle.parsing_components.specs.declared.fields.Record.{Record}
use Rattle.instants_sources.specs.Grammar.{Grammar}
use Rattle.instants_edges.specs.Edge.{is_edge, may_say}
use Rattle.instants_edges.specs.Beside.{has_another_offset, has_half_after, has_clock_beside, has_clock_before, has_another_year}
use Rattle.instants_prefixes.specs.Given.{year_of, lacks_offset, lacks_year, lacks_time}
use Rattle.instants_prefixes.specs.declared.given.Given.{Given}
use Rattle.instants_prefixes.specs.Lacks.{is_known}
use Rattle.instants_prefixes.specs.Reading.{record_at}
use Rattle.instants_prefixes.specs.declared.prefix.Prefix.{Prefix}
use Rattle.instants_found.specs.Zoned.{settled}
use Rattle.instants_found.specs.declared.zoned.Settled.{Settled}
use Rattle.instants_found.specs.declared.beside.Said.{Said}
use Rattle.instants_found.specs.declared.doubt.Doubt.{Doubt}
use Rattle.instants_found.specs.declared.doubt.Doubt.TheVariants.{After, ClockBefore, AnotherOffset, AnotherTime, AnotherYear}

-- a date is read there: it may say something from its beginning on, and a number of Unix time inside a word is none
abbrev pub is_read : Grammar → List ℕ → ℕ → Prefix → Bool
is_read grammar line start prefix =
    may_say line (start + prefix.begins) && (is_edge line (start + prefix.all) || is_none (record_at grammar (drop start line)).unix_timestamp_nanos)

-- ---- what is given, and said otherwise

-- a year was given, and the line says another one beside a date
abbrev pub says_year : Given → List ℕ → ℕ → Prefix → Bool
says_year given line start prefix = is_known given.years && has_another_year line (start + prefix.begins) (start + prefix.ends) (year_of prefix.moment)

-- where an offset is assumed the line says another one after a date, or inside of it; it says a half of the day after it; where a time of day was given it says a clock beside it; and another year
abbrev pub said : Given → Option ℤ → List ℕ → ℕ → Prefix → Said
said given offset line start prefix = record {
  offset = is_some offset && has_another_offset line start (start + prefix.ends) (unwrap_or offset (pos 0));
  half = is_some offset && has_half_after line (start + prefix.ends);
  clock = is_some given.time && has_clock_beside line (start + prefix.begins) (start + prefix.ends);
  year = says_year given line start prefix;
}

-- no year was read, and no two digits of one
abbrev pub says_no_year : Record → Bool
says_no_year read = lacks_year read && is_none read.year_last_two && is_none read.iso_year_last_two

-- the doubt that this makes of what was read, the first of these: it lacks an offset, and a half of the day or a time of day, and a year; a number of Unix time needs nothing
abbrev pub doubt_by : Record → Said → Option Doubt
doubt_by read said =
    if is_some read.unix_timestamp_nanos then None
    else if lacks_offset read && said.offset then Some AnotherOffset
    else if ((lacks_offset read && is_none read.hour_12_is_pm) && said.half) || (lacks_time read && said.clock) then Some AnotherTime
    else if says_no_year read && said.year then Some AnotherYear
    else None

-- what the line says otherwise beside a date than what was given for it
unfoldable pub otherwise : Given → Option ℤ → Record → List ℕ → ℕ → Prefix → Option Doubt
otherwise given offset read line start prefix = doubt_by read (said given offset line start prefix)

-- a word or a clock goes on after a date, or a clock stands before it and text of its description did not choose the place
abbrev pub joined : List ℕ → ℕ → Prefix → Option Doubt
joined line start prefix =
    if not (is_edge line (start + prefix.all)) then Some After
    else if not prefix.is_chosen && has_clock_before line (start + prefix.begins) then Some ClockBefore
    else None

-- the date of a prefix, with the offset that is assumed for it
abbrev pub settled_at : Given → Grammar → List ℕ → ℕ → Prefix → Settled
settled_at given grammar line start prefix = settled given (record_at grammar (drop start line)) line start prefix

-- why a date does not stand whole: something joins it, or the clock of a zone does not show it once, or the line says otherwise beside it
unfoldable pub why : Given → Grammar → List ℕ → ℕ → Settled → Option Doubt
why given grammar line start date = option_or (joined line start date.prefix) (option_or date.doubt (otherwise given date.offset (record_at grammar (drop start line)) line start date.prefix))
