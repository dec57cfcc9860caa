-- The numbers of a text.
use Rattle.std.specs.Prelude.{ℕ, ◌-◌, ◌==◌, ◌||◌, Bool, List, [], ◌∷◌, Option, Some, None, option_map, if◌then◌else◌, ℤ, pos, neg_ℤ}
use Rattle.std.specs.Int.{is_in_range}
use Rattle.base.specs.Bytes.{hyphen, dot}
use Rattle.calendar_count.specs.declared.month.Month.{Month}
use Rattle.calendar_count.specs.declared.month.Month.TheVariants.{January, February, March, April, May, June, July, August, September, October, November, December}
use Rattle.calendar_count.specs.declared.weekday.Weekday.{Weekday}
use Rattle.calendar_count.specs.declared.weekday.Weekday.TheVariants.{Monday, Tuesday, Wednesday, Thursday, Friday, Saturday, Sunday}
use Rattle.parsing_combinator.specs.Pieces.{Piece, digits, digit_run, skip_of, sign}
use Rattle.parsing_iso8601.specs.AllOrNothing.{◌>>=◌, give, if_there}
use Rattle.parsing_iso8601.specs.Designators.{comma}

-- what a piece says, where it passes
abbrev pub kept : {A : Type 0} → (A → Bool) → Option (A × List ℕ) → Option (A × List ℕ)
kept p None = None
kept p (Some x) = if p x.0 then Some x else None

-- exactly n digits that write a number from `low` to `high`
unfoldable pub digits_within : ℕ → ℕ → ℕ → Piece ℕ
digits_within n low high bytes = kept (λ value. is_in_range low high value) (digits n bytes)

-- what stands at a place of a list, counted from 1
abbrev pub counted : {A : Type 0} → List A → ℕ → Option A
counted [] n = None
counted (x ∷ xs) n = if n == 1 then Some x else counted xs (n - 1)

abbrev pub entry_of : {A : Type 0} → List A → Option (ℕ × List ℕ) → Option (A × List ℕ)
entry_of xs None = None
entry_of xs (Some x) = option_map (λ entry. (entry, x.1)) (counted xs x.0)

-- exactly n digits that number an entry of a list, from 1
unfoldable pub numbered : {A : Type 0} → ℕ → List A → Piece A
numbered n xs bytes = entry_of xs (digits n bytes)

abbrev pub months : List Month
months = January ∷ February ∷ March ∷ April ∷ May ∷ June ∷ July ∷ August ∷ September ∷ October ∷ November ∷ December ∷ []

abbrev pub weekdays : List Weekday
weekdays = Monday ∷ Tuesday ∷ Wednesday ∷ Thursday ∷ Friday ∷ Saturday ∷ Sunday ∷ []

-- a number under the sign before it
abbrev pub signed : Bool → ℕ → ℤ
signed is_negative n = if is_negative then neg_ℤ (pos n) else pos n

-- after a sign six digits
unfoldable pub signed_year : Bool → Piece ℤ
signed_year is_negative = do
  n ← digits 6
  give (signed is_negative n)

unfoldable pub plain_year : Piece ℤ
plain_year = do
  n ← digits 4
  give (pos n)

-- four digits, or a sign and six
unfoldable pub year : Piece ℤ
year = if_there sign (λ mark. signed_year (mark == hyphen)) plain_year

-- `.` or `,`
unfoldable pub decimal_mark : Piece (Unit {0})
decimal_mark = skip_of (λ c. (c == dot) || (c == comma))

-- after a decimal mark at least one digit is due, and all that are there are read
unfoldable pub due_digits : Piece (Option (List ℕ))
due_digits = do
  run ← digit_run
  give (Some run)

-- the digits of a fraction, where there is one
unfoldable pub fraction_digits : Piece (Option (List ℕ))
fraction_digits = if_there decimal_mark (λ _. due_digits) (give None)

-- two digits, and their fraction
unfoldable pub number : Piece (ℕ × Option (List ℕ))
number = do
  value ← digits 2
  run ← fraction_digits
  give (value, run)
