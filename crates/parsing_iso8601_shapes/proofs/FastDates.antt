-- A calendar date of the extended kind by its pieces, and the days that dates name.
use Rattle.std.proofs.Common.{Bool, false, None, ◌==◌, ◌+◌, ◌≡◌, ℕ, zero, suc, ◌≤◌, true, List, Option, Some, Ok, ℤ, refl, sym, ap, ◌∙◌, arith, lit<}
use Rattle.std.specs.Prelude.{pos}
use Rattle.std.proofs.lemmas.Bool.{agree_below_at, le-leb}
use Rattle.std.proofs.lemmas.Bool.Decides.{nat_tests}
use Rattle.base.specs.Bytes.{hyphen}
use Rattle.calendar_count.specs.Month.{month_number}
use Rattle.calendar_count.specs.declared.month.Month.{Month}
use Rattle.calendar_count.specs.Weekday.{days_from_monday}
use Rattle.calendar_count.specs.declared.weekday.Weekday.{Weekday}
use Rattle.std.specs.Option.{unwrap_or}
use Rattle.calendar_count.specs.Calendar.{day_at, ymd, IsDay}
use Rattle.calendar_count.specs.TheDay.{the_day, is_day_of}
use Rattle.parsing_values.specs.NamedDay.{calendar_date_of}
use Rattle.parsing_values.proofs.lemmas.Moments.{day_found, day_of_count}
use Rattle.parsing_iso8601.specs.declared.written.WrittenDate.{WrittenDate}
use Rattle.parsing_iso8601.specs.ReadView.{day_named}
use Rattle.parsing_combinator.specs.Pieces.{digits, byte}
use Rattle.parsing_iso8601.specs.declared.kind.Kind.{Kind}
use Rattle.parsing_iso8601.specs.declared.kind.Kind.TheVariants.{Extended}
use Rattle.parsing_iso8601.specs.declared.written.WrittenDate.TheVariants.{OfMonth}
use Rattle.parsing_iso8601.specs.Dates.{month_and_day, date_of_month, date_after, year_and_kind}
use Rattle.parsing_iso8601.specs.Kinds.{kind_of_date}
use Rattle.parsing_iso8601.specs.Numbers.{digits_within, numbered, counted, months, weekdays, year, plain_year}
use Rattle.parsing_iso8601.specs.Reading.{dated}
use Rattle.parsing_iso8601.proofs.Entries.{month_entry}
use Rattle.parsing_iso8601.proofs.Pieces.{no_sign}

-- a date names the day of these numbers, if the calendar has it
abbrev pub NamesDay : WrittenDate → ℕ → ℕ → ℕ → Type 0
NamesDay date year month day =
    IsDay (pos year) month day → day_named date ≡ Ok (unwrap_or (the_day (is_day_of (pos year) month day)) 0)

-- a date is read that names the day of these numbers
abbrev pub ReadsDay : List ℕ → ℕ → ℕ → ℕ → Kind → List ℕ → Type 0
ReadsDay bytes year month day kind rest =
    (date : WrittenDate) × (dated bytes ≡ Ok ((Ok date, kind), rest)) × NamesDay date year month day

-- four digits are a year
pub year_of : (bytes : List ℕ) (n : ℕ) (rest : List ℕ) → digits 4 bytes ≡ Some (n, rest) → year bytes ≡ Some (pos n, rest)
unfolding year plain_year
year_of bytes n rest e = rw (no_sign 4 bytes (n, rest) (lit< tt) e) (rw e refl)

-- two digits number a month
pub month_of : (bytes : List ℕ) (m : Month) (n : ℕ) (rest : List ℕ) → digits 2 bytes ≡ Some (n, rest) → month_number m ≡ n → numbered 2 months bytes ≡ Some (m, rest)
unfolding numbered
month_of bytes m n rest e is = rw e (rw (month_entry m n is) refl)

-- two digits in a range
pub within : (n low high : ℕ) (bytes : List ℕ) (v : ℕ) (rest : List ℕ) → digits n bytes ≡ Some (v, rest) → low ≤ v → v ≤ high → digits_within n low high bytes ≡ Some (v, rest)
unfolding digits_within
within n low high bytes v rest e above below = grind (arith, nat_tests)

-- the date whose pieces these are
pub date_of_pieces : (b0 b1 b2 b3 b4 b5 : List ℕ) (y n d : ℕ) (m : Month) → digits 4 b0 ≡ Some (y, b1) → byte hyphen b1 ≡ Some (tt, b2) → digits 2 b2 ≡ Some (n, b3) → month_number m ≡ n → byte hyphen b3 ≡ Some (tt, b4) → digits 2 b4 ≡ Some (d, b5) → 1 ≤ d → d ≤ 31
    → dated b0 ≡ Ok ((Ok (OfMonth (pos y) m d), Extended), b5)
unfolding dated year_and_kind kind_of_date date_after month_and_day date_of_month
date_of_pieces b0 b1 b2 b3 b4 b5 y n d m p1 p2 p3 is p4 p5 some most =
    rw (year_of b0 y b1 p1, p2, month_of b2 m n b3 p3 is, p4, within 2 1 99 b4 d b5 p5 some (omega arith), le-leb d 31 most) refl

-- ---- the days that dates name

-- an entry is there, and has this number
abbrev has_number : {A : Type 0} → (A → ℕ) → Option A → ℕ → Bool
has_number number None n = false
has_number number (Some x) n = number x == n

entry_with : {A : Type 0} (number : A → ℕ) (o : Option A) (n : ℕ) → has_number number o n ≡ true → (x : A) × (number x ≡ n)
entry_with number o n e = grind (arith, nat_tests)

-- a month has its number
pub named_month : (n : ℕ) → 1 ≤ n → n ≤ 12 → (m : Month) × (month_number m ≡ n)
named_month zero low high = absurd (omega arith)
named_month (suc k) low high = entry_with month_number (counted months (suc k)) (suc k) (agree_below_at (λ j. has_number month_number (counted months (suc j)) (suc j)) (λ _. true) 12 k refl (omega arith))

-- the weekday so many days after Monday
pub weekday_of : (n : ℕ) → n ≤ 6 → (w : Weekday) × (days_from_monday w ≡ n)
weekday_of n most = entry_with days_from_monday (counted weekdays (n + 1)) n (agree_below_at (λ j. has_number days_from_monday (counted weekdays (j + 1)) j) (λ _. true) 7 n refl (omega arith))

-- a date with a month and a day
pub month_names : (year : ℤ) (month : Month) (y n d : ℕ) → pos y ≡ year → month_number month ≡ n → NamesDay (OfMonth year month d) y n d
unfolding calendar_date_of
month_names year month y n d same number = grind (arith, nat_tests, day_found)

-- any date by the count of its day
pub count_names : (date : WrittenDate) (year : ℤ) (y n d count : ℕ) → day_named date ≡ Ok count → pos y ≡ year → day_at count ≡ ymd year n d → NamesDay date y n d
count_names date year y n d count named same e = λ is. named ∙ ap (λ (k : ℕ). Ok k) (sym (day_of_count (pos y) n d count is (rw same e)))
