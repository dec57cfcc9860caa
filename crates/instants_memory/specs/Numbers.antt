-- Lines as numbers: the seconds and nanoseconds of a moment, or the number of a fault.
use Rattle.std.specs.Prelude.{ℕ, ◌+◌, List, [], ◌∷◌, codes, length, nat_lt, if◌then◌else◌, Result, Ok, Err, pos, unsigned_abs}
use Rattle.std.specs.Int.{int_div_euclid, int_rem_euclid}
use Rattle.std.specs.Str.{bytes_eq}
use Rattle.datetime_wall.specs.Wall.{Shown, instant, second_nanos}
use Rattle.instants_timeline.specs.Place.{Setting, place_of}
use Rattle.instants_faults.specs.Refusal.{Refusal, literal, component, trailing, insufficient, range, year, long}
use Rattle.instants_memory.specs.declared.moments.Moment.{Moment}

-- the names of components, by their numbers from 1 on
abbrev pub names : List (List ℕ)
names =
    codes "year" ∷ codes "month" ∷ codes "day" ∷ codes "ordinal" ∷ codes "week" ∷ codes "week number" ∷ codes "weekday" ∷ codes "hour" ∷
    codes "minute" ∷ codes "second" ∷ codes "subsecond" ∷ codes "period" ∷ codes "offset hour" ∷ codes "offset minute" ∷
    codes "offset second" ∷ codes "unix_timestamp" ∷ codes "ignore" ∷ codes "separator" ∷ codes "julian_day" ∷ codes "millisecond" ∷
    codes "microsecond" ∷ codes "nanosecond" ∷ codes "hours" ∷ codes "minutes" ∷ codes "seconds" ∷ codes "timestamp" ∷ []

-- the number of a name in a list whose first name has this number, and 0 for a name that is not there
abbrev pub number_in : List ℕ → ℕ → List (List ℕ) → ℕ
number_in name first [] = 0
number_in name first (known ∷ others) = if bytes_eq name known then first else number_in name (first + 1) others

-- the number of a component's name, and 0 for a name that has none
unfoldable pub name_number : List ℕ → ℕ
name_number name = number_in name 1 names

-- the number of a fault: a hundred for each kind, and the number of the component that it names
unfoldable pub fault_number : Refusal → ℕ
fault_number literal = 100
fault_number (component name) = 200 + name_number name
fault_number trailing = 300
fault_number insufficient = 400
fault_number (range name) = 500 + name_number name
fault_number year = 600
fault_number long = 700

-- a place as numbers: its instant in whole seconds, rounded down, and the nanoseconds after them; or zeros and the number of the fault
unfoldable pub numbers_of : Result Shown Refusal → Moment
numbers_of (Ok moment) = record {
  seconds = int_div_euclid (instant moment) (pos second_nanos);
  nanoseconds = unsigned_abs (int_rem_euclid (instant moment) (pos second_nanos));
  fault = 0;
}
numbers_of (Err refusal) = record { seconds = pos 0; nanoseconds = 0; fault = fault_number refusal }

-- the entry of a line: its place as numbers, or that it is too long
unfoldable pub entry_of : Setting → ℕ → List ℕ → Moment
entry_of setting limit line = numbers_of (if nat_lt limit (length line) then Err long else place_of setting line)
