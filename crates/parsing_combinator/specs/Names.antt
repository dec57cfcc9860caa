-- Names, and what each of them names.
use Rattle.std.specs.Prelude.{ℕ, ◌+◌, ◌*◌, ◌&&◌, ◌==◌, Bool, true, false, List, [], ◌∷◌, map, length, get_or, take, drop, nat_le, Option, Some, None, option_map, bit_or, bytes_eq, codes, if◌then◌else◌}
use Rattle.std.specs.Char.{to_ascii_lowercase}
use Rattle.calendar_count.specs.declared.month.Month.{Month}
use Rattle.calendar_count.specs.declared.month.Month.TheVariants as month
use Rattle.calendar_count.specs.declared.weekday.Weekday.{Weekday}
use Rattle.calendar_count.specs.declared.weekday.Weekday.TheVariants as weekday
use Rattle.parsing_combinator.specs.Shape.{Shape}

-- a text as names are compared: as it is, or without its ASCII case
abbrev pub compared : Bool → List ℕ → List ℕ
compared true text = text
compared false text = map to_ascii_lowercase text

abbrev pub is_name : Bool → List ℕ → List ℕ → Bool
is_name case_sensitive name text = bytes_eq (compared case_sensitive name) (compared case_sensitive text)

-- whether a text begins with a name
unfoldable pub begins : Bool → List ℕ → List ℕ → Bool
begins case_sensitive name text = is_name case_sensitive name (take (length name) text)

-- one of these names
unfoldable pub named : {A : Type 0} → Bool → List (List ℕ × A) → Shape A
named case_sensitive [] text = None
named case_sensitive (entry ∷ entries) text = if is_name case_sensitive entry.0 text then Some entry.1 else named case_sensitive entries text

-- the first three letters in lower case, in one number, the first one lowest, and 0 where there are fewer
abbrev pub letters : List ℕ → ℕ
letters text = if nat_le 3 (length text) then bit_or (get_or text 0 0) 32 + bit_or (get_or text 1 0) 32 * 256 + bit_or (get_or text 2 0) 32 * 65_536 else 0

-- the first entry whose name begins with these letters
abbrev pub with_letters : {A : Type 0} → ℕ → List (List ℕ × A) → Option (List ℕ × A)
with_letters number [] = None
with_letters number (entry ∷ entries) = if letters entry.0 == number then Some entry else with_letters number entries

-- a name as it is read: long, or its first three letters
abbrev pub form : Bool → List ℕ → List ℕ
form is_long name = if is_long then name else take 3 name

-- what an entry says that is there
abbrev pub said : {A : Type 0} → Bool → Bool → Option (List ℕ × A) → List ℕ → Option (A × List ℕ)
said b is_long None bytes = None
said b is_long (Some entry) bytes = option_map (λ x. (x, drop (length (form is_long entry.0)) bytes)) (if begins b (form is_long entry.0) bytes then Some entry.1 else None)

-- ---- the names

abbrev pub long_months : List (List ℕ × Month)
long_months =
    (codes "January", month.January) ∷ (codes "February", month.February) ∷ (codes "March", month.March) ∷ (codes "April", month.April) ∷
    (codes "May", month.May) ∷ (codes "June", month.June) ∷ (codes "July", month.July) ∷ (codes "August", month.August) ∷
    (codes "September", month.September) ∷ (codes "October", month.October) ∷ (codes "November", month.November) ∷ (codes "December", month.December) ∷ []

abbrev pub long_weekdays : List (List ℕ × Weekday)
long_weekdays =
    (codes "Monday", weekday.Monday) ∷ (codes "Tuesday", weekday.Tuesday) ∷ (codes "Wednesday", weekday.Wednesday) ∷ (codes "Thursday", weekday.Thursday) ∷
    (codes "Friday", weekday.Friday) ∷ (codes "Saturday", weekday.Saturday) ∷ (codes "Sunday", weekday.Sunday) ∷ []

abbrev pub short_months : List (List ℕ × Month)
short_months =
    (codes "Jan", month.January) ∷ (codes "Feb", month.February) ∷ (codes "Mar", month.March) ∷ (codes "Apr", month.April) ∷
    (codes "May", month.May) ∷ (codes "Jun", month.June) ∷ (codes "Jul", month.July) ∷ (codes "Aug", month.August) ∷
    (codes "Sep", month.September) ∷ (codes "Oct", month.October) ∷ (codes "Nov", month.November) ∷ (codes "Dec", month.December) ∷ []

abbrev pub short_weekdays : List (List ℕ × Weekday)
short_weekdays =
    (codes "Mon", weekday.Monday) ∷ (codes "Tue", weekday.Tuesday) ∷ (codes "Wed", weekday.Wednesday) ∷ (codes "Thu", weekday.Thursday) ∷
    (codes "Fri", weekday.Friday) ∷ (codes "Sat", weekday.Saturday) ∷ (codes "Sun", weekday.Sunday) ∷ []

-- the halves of the day: whether it is the later one
abbrev pub periods : List (List ℕ × Bool)
periods = (codes "AM", false) ∷ (codes "PM", true) ∷ []

-- the case counts only where it is due and upper
unfoldable pub period : Bool → Bool → Shape Bool
period is_uppercase case_sensitive = named (is_uppercase && case_sensitive) periods
