-- Numbers in their ranges, and what they say.
use Rattle.std.specs.Prelude.{ℕ, zero, suc, ℤ, pos, neg_ℤ, ◌+◌, ◌*◌, ◌-◌, Bool, true, false, List, [], ◌∷◌, Option, Some, None, option_map, nat_le, if◌then◌else◌}
use Rattle.std.specs.Int.{is_in_range}
use Rattle.calendar_count.specs.Range.{unix_epoch, last_count}
use Rattle.calendar_count.specs.declared.month.Month.{Month}
use Rattle.calendar_count.specs.declared.month.Month.TheVariants as month
use Rattle.calendar_count.specs.declared.weekday.Weekday.{Weekday}
use Rattle.calendar_count.specs.declared.weekday.Weekday.TheVariants as weekday
use Rattle.parsing_combinator.specs.Pieces.{Piece}

-- what a piece says, seen otherwise, or refused
abbrev pub kept : {A B : Type 0} → (A → Option B) → Option (A × List ℕ) → Option (B × List ℕ)
kept says None = None
kept says (Some x) = option_map (λ y. (y, x.1)) (says x.0)

abbrev pub says : {A B : Type 0} → (A → Option B) → Piece A → Piece B
says f piece bytes = kept f (piece bytes)

-- a number in its range
abbrev pub between : {B : Type 0} → ℕ → ℕ → (ℕ → B) → ℕ → Option B
between low high make n = if is_in_range low high n then Some (make n) else None

-- a number under its sign
abbrev pub under : Bool → ℕ → ℤ
under negative n = if negative then neg_ℤ (pos n) else pos n

-- a number up to a greatest, under its sign
abbrev pub up_to : {B : Type 0} → ℕ → (Bool → ℤ → B) → Bool × ℕ → Option B
up_to high make x = if nat_le x.1 high then Some (make x.0 (under x.0 x.1)) else None

-- what stands at a place of a list, from 0
abbrev pub entry : {A : Type 0} → List A → ℕ → Option A
entry [] n = None
entry (x ∷ xs) zero = Some x
entry (x ∷ xs) (suc n) = entry xs n

abbrev pub months : List Month
months = month.January ∷ month.February ∷ month.March ∷ month.April ∷ month.May ∷ month.June ∷ month.July ∷ month.August ∷ month.September ∷ month.October ∷ month.November ∷ month.December ∷ []

abbrev pub from_sunday : List Weekday
from_sunday = weekday.Sunday ∷ weekday.Monday ∷ weekday.Tuesday ∷ weekday.Wednesday ∷ weekday.Thursday ∷ weekday.Friday ∷ weekday.Saturday ∷ []

abbrev pub from_monday : List Weekday
from_monday = weekday.Monday ∷ weekday.Tuesday ∷ weekday.Wednesday ∷ weekday.Thursday ∷ weekday.Friday ∷ weekday.Saturday ∷ weekday.Sunday ∷ []

-- the days of the week, from Sunday or from Monday
abbrev pub week : Bool → List Weekday
week true = from_sunday
week false = from_monday

-- the place that a number counts from 1 or from 0
abbrev pub counted : {A : Type 0} → Bool → List A → ℕ → Option A
counted true xs zero = None
counted true xs (suc n) = entry xs n
counted false xs n = entry xs n

-- the greatest century
abbrev pub greatest_century : ℕ
greatest_century = 9_999

abbrev pub day_nanos : ℕ
day_nanos = 86_400_000_000_000

-- the nanoseconds from the first day to 1970, and from 1970 to the end of the last day
abbrev pub nanoseconds_before_epoch : ℕ
nanoseconds_before_epoch = unix_epoch * day_nanos

abbrev pub nanoseconds_after_epoch : ℕ
nanoseconds_after_epoch = (last_count + 1 - unix_epoch) * day_nanos - 1

-- a timestamp in units of so many nanoseconds, within the days that there are
abbrev pub since_epoch : {B : Type 0} → (ℤ → B) → ℕ → Bool × ℕ → Option B
since_epoch make unit x = if nat_le (x.1 * unit) (if x.0 then nanoseconds_before_epoch else nanoseconds_after_epoch) then Some (make (under x.0 (x.1 * unit))) else None
