-- A date that says no offset, on the clock of a zone.
use Rattle.std.specs.Prelude.{◌≡◌, ◌⊎◌, ℕ, Bool, true, false, ◌+◌, ◌&&◌, ◌||◌, not, bytes_eq, List, Option, None, Some, if◌then◌else◌, ℤ, pos, ◌-ℤ◌}
use Rattle.std.specs.Int.{int_div_euclid}
use Rattle.std.specs.Option.{is_none, option_map_or}
use Rattle.std.specs.Ordering.{int_eq}
use Rattle.std.specs.Borrow.{Bor}
use Rattle.zones_clock.specs.declared.zone.Zone.{Zone}
use Rattle.zones_clock.specs.declared.zone.Moments.{Moments}
use Rattle.zones_clock.specs.declared.zone.Moments.TheVariants.{Skipped, One, Repeated, Several}
use Rattle.zones_clock.specs.Clock.{Shows}
use Rattle.zones_clock.specs.AllMoments.{moments_of}
use Rattle.zones_clock.specs.Steps.{offset_at, name_place_at, name_in, is_name}
use Rattle.datetime_wall.specs.Wall.{Shown, second_nanos}
use Rattle.parsing_components.specs.declared.fields.Record.{Record}
use Rattle.instants_edges.specs.Beside.{after, is_any, offset_after, word_after}
use Rattle.instants_edges.specs.Edge.{is_edge}
use Rattle.instants_prefixes.specs.Given.{lacks_offset}
use Rattle.instants_prefixes.specs.declared.given.Given.{Given}
use Rattle.instants_prefixes.specs.declared.prefix.Prefix.{Prefix}
use Rattle.instants_found.specs.declared.doubt.Doubt.{Doubt}
use Rattle.instants_found.specs.declared.doubt.Doubt.TheVariants as doubt
use Rattle.instants_found.specs.declared.zoned.Settled.{Settled}

-- what was read takes the offset that is given: it says none, and is no number of Unix time
abbrev pub takes_offset : Record → Bool
takes_offset read = lacks_offset read && is_none read.unix_timestamp_nanos

-- what the clock of a date shows, in seconds since it showed 1970-01-01T00:00:00
abbrev pub reading : Shown → ℤ
reading date = int_div_euclid date.wall (pos second_nanos)

-- the same date and time at another offset
abbrev pub at_offset : Prefix → ℤ → Prefix
at_offset prefix offset = record prefix { moment = record prefix.moment { offset = offset } }

-- ---- what a line says of a zone's clock after a date

-- at a moment the clock is ahead by the offset that the line says, if it says one
abbrev pub has_offset : Zone → Option ℤ → ℤ → Bool
has_offset zone said moment = option_map_or (λ offset. int_eq offset (offset_at zone.first zone.steps.items moment)) said true

-- the clock has this abbreviation at a moment, if it is one of the zone's
abbrev pub has_name : Zone → List ℕ → ℤ → Bool
has_name zone word moment = not (is_name zone.letters.items word) || bytes_eq (name_in zone.letters.items (name_place_at zone.first_name zone.steps.items moment)) word

-- another abbreviation of the zone than the clock has at a moment stands at a place, where a word may begin
abbrev pub has_other_name : Zone → List ℕ → ℤ → ℕ → Bool
has_other_name zone line moment place = is_edge line place && not (has_name zone (word_after line place) moment)

-- inside of what is read and after it the line has no other abbreviation of the zone, and the offset that it says after it is the clock's
abbrev pub is_said : Zone → List ℕ → ℕ → ℕ → ℤ → Bool
is_said zone line start ends moment =
    not (is_any (has_other_name zone line moment) start ends) && has_name zone (word_after line ends) moment && has_offset zone (offset_after (after line ends)) moment

-- ---- which moment it is

-- the date on a clock that is so far ahead of UTC
abbrev pub ahead_by : Prefix → ℤ → Option Doubt → Settled
ahead_by prefix offset doubt = record { prefix = at_offset prefix offset; offset = Some offset; doubt = doubt }

-- the date at the moment at which the zone's clock shows it
abbrev pub at_moment : Prefix → ℤ → Option Doubt → Settled
at_moment prefix moment doubt = ahead_by prefix (reading prefix.moment -ℤ moment) doubt

-- the zone's clock shows the date at a moment
abbrev pub ShowsAt : Zone → Prefix → ℤ → Type 0
ShowsAt zone prefix moment = Shows zone.first zone.steps.items (reading prefix.moment) moment

-- the date at no moment
abbrev pub nowhere : Prefix → Doubt → Settled
nowhere prefix doubt = record { prefix = prefix; offset = None; doubt = Some doubt }

-- of two moments the one of which the line says what the clock has there
abbrev pub chosen : Prefix → ℤ → ℤ → Bool → Bool → Settled
chosen prefix first second true false = at_moment prefix first None
chosen prefix first second false true = at_moment prefix second None
chosen prefix first second true true = nowhere prefix doubt.Repeated
chosen prefix first second false false = nowhere prefix doubt.AnotherOffset

-- the date by the moments at which the zone's clock shows it: the only one, or the one that the line says; that the clock has another abbreviation there, or that there is no such moment, is a doubt. What offset the line says of an only moment is looked at as for one that is assumed
abbrev pub by_moments : Zone → List ℕ → ℕ → Prefix → Moments → Settled
by_moments zone line start prefix Skipped = nowhere prefix doubt.Skipped
by_moments zone line start prefix (One moment) = at_moment prefix moment (if has_name zone (word_after line (start + prefix.ends)) moment then None else Some doubt.AnotherOffset)
by_moments zone line start prefix (Repeated first second) = chosen prefix first second (is_said zone line start (start + prefix.ends) first) (is_said zone line start (start + prefix.ends) second)
by_moments zone line start prefix (Several first second third) = nowhere prefix doubt.Repeated

-- a date that no zone moves
abbrev pub unmoved : Option ℤ → Prefix → Settled
unmoved offset prefix = record { prefix = prefix; offset = offset; doubt = None }

-- a date on the clock of a zone, where one is given and the date takes an offset
abbrev pub settled_by : Option (Bor Zone) → Option ℤ → Bool → List ℕ → ℕ → Prefix → Settled
settled_by None offset takes line start prefix = unmoved offset prefix
settled_by (Some zone) offset takes line start prefix =
    if takes then by_moments zone.now line start prefix (moments_of zone.now.first zone.now.steps.items (reading prefix.moment)) else unmoved offset prefix

-- the date that was read at a place of a line, the offset that is assumed for it, and its doubt
abbrev pub settled : Given → Record → List ℕ → ℕ → Prefix → Settled
settled given read line start prefix = settled_by given.zone given.offset (takes_offset read) line start prefix

-- ---- what follows

-- at a moment the zone's clock shows a date, and of each other such moment the line does not say what the clock has there
pub record IsTheMoment (zone : Zone) (line : List ℕ) (start : ℕ) (prefix : Prefix) (moment : ℤ) : Type 0 where
  pub shown : ShowsAt zone prefix moment
  pub others : (other : ℤ) → ShowsAt zone prefix other → (other ≡ moment) ⊎ (is_said zone line start (start + prefix.ends) other ≡ false)

-- a date on a zone's clock that is not in doubt is at such a moment
abbrev pub EachIsAtTheMoment : Type 0
EachIsAtTheMoment = (zone : Zone) (line : List ℕ) (start : ℕ) (prefix : Prefix)
    → (by_moments zone line start prefix (moments_of zone.first zone.steps.items (reading prefix.moment))).doubt ≡ None
    → (moment : ℤ) × ((by_moments zone line start prefix (moments_of zone.first zone.steps.items (reading prefix.moment))).prefix ≡ at_offset prefix (reading prefix.moment -ℤ moment)) × IsTheMoment zone line start prefix moment
