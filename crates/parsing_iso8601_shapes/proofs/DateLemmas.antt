-- Dates, by their pieces.
use Rattle.std.proofs.Common.{◌≡◌, ◌≤◌, ◌+◌, ◌-◌, ◌*◌, ◌∙◌, ℕ, Bool, true, false, List, ◌∷◌, Option, Some, None, Err, refl, arith, lit≤, pos, ℤ}
use Rattle.std.specs.Prelude.{option_map, codes}
use Rattle.std.proofs.lemmas.Bool.{le-leb}
use Rattle.std.proofs.lemmas.Bool.Decides.{nat_tests}
use Rattle.base.specs.Bytes.{hyphen}
use Rattle.calendar_count.specs.Calendar.{IsDay}
use Rattle.calendar_count.specs.Weekday.{days_from_monday}
use Rattle.calendar_count.specs.declared.month.Month.{Month}
use Rattle.calendar_count.specs.declared.weekday.Weekday.{Weekday}
use Rattle.parsing_combinator.specs.Fault.{Fault, literal, component}
use Rattle.parsing_combinator.specs.Pieces.{digits, byte, skip_of}
use Rattle.parsing_combinator.proofs.Fixed.{digits_three}
use Rattle.parsing_iso8601.specs.Dates.{month_and_day, date_of_month, date_of_year, date_of_week, week_and_weekday, date_without_month, date_after, year_and_kind}
use Rattle.parsing_iso8601.specs.Designators.{time_designator, week_designator}
use Rattle.parsing_iso8601.specs.Kinds.{kind_of_date}
use Rattle.parsing_iso8601.specs.Numbers.{digits_within, numbered, counted, months, weekdays}
use Rattle.parsing_iso8601.specs.Reading.{dated}
use Rattle.parsing_iso8601.specs.declared.kind.Kind.{Kind}
use Rattle.parsing_iso8601.specs.declared.kind.Kind.TheVariants.{Basic, Extended}
use Rattle.parsing_iso8601.specs.declared.written.WrittenDate.TheVariants.{OfMonth, OfYear, OfWeek}
use Rattle.parsing_iso8601.proofs.Entries.{weekday_entry}
use Rattle.parsing_iso8601.proofs.Pieces.{no_byte}
use Rattle.parsing_layout.specs.Layout.{Values, Says}
use Rattle.parsing_layout.specs.declared.parts.Field.TheVariants as field
use Rattle.parsing_layout.proofs.PieceLemmas.{byte_is, literal_said}
use Rattle.parsing_iso8601_shapes.specs.Days.{NamesOrdinal, NamesWeekDay}
use Rattle.parsing_iso8601_shapes.specs.Layout.{NamesDate, date_parts}
use Rattle.parsing_iso8601_shapes.specs.declared.form.Dating.{Dating}
use Rattle.parsing_iso8601_shapes.specs.declared.form.Dating.TheVariants.{Calendar, Ordinal, Week}
use Rattle.parsing_iso8601_shapes.proofs.FastDates.{NamesDay, ReadsDay, year_of, month_of, within, date_of_pieces, named_month, weekday_of, month_names, count_names}

-- ---- what is not there

-- where `W` stands there are no digits, and no hyphen
record NoNumber (bytes : List ℕ) : Type 0 where
  two : digits 2 bytes ≡ None
  three : digits 3 bytes ≡ None
  hyphen_there : byte hyphen bytes ≡ None

no_number : (bytes rest : List ℕ) → bytes ≡ week_designator ∷ rest → NoNumber bytes
unfolding digits skip_of
no_number bytes rest e = rw e (record { two = refl; three = refl; hyphen_there = refl })

-- after one digit and a `T` there are no two
no_two : (bytes rest after : List ℕ) (n : ℕ) → digits 1 bytes ≡ Some (n, rest) → rest ≡ time_designator ∷ after → digits 2 bytes ≡ None
unfolding digits
no_two bytes rest after n e is = grind (arith, nat_tests)

-- three digits, by two and the last
three_after : (bytes mid rest : List ℕ) (tens ones : ℕ) → digits 2 bytes ≡ Some (tens, mid) → digits 1 mid ≡ Some (ones, rest) → digits 3 bytes ≡ Some (tens * 10 + ones, rest)
three_after bytes mid rest tens ones two one = digits_three bytes ∙ rw (two, one) refl

-- ---- dates by their pieces

month_or_none : (o : Option Month) (b2 b4 : List ℕ) → numbered 2 months b2 ≡ option_map (λ m. (m, b4)) o → byte hyphen b4 ≡ None → (f : Fault) × (month_and_day Extended b2 ≡ Err f)
unfolding month_and_day
month_or_none None b2 b4 e h = (component (codes "month"), rw e refl)
month_or_none (Some m) b2 b4 e h = (literal, rw (e, h) refl)

month_alone : (o : Option Month) (b2 b4 : List ℕ) → numbered 2 months b2 ≡ option_map (λ m. (m, b4)) o → digits 2 b4 ≡ None → (f : Fault) × (month_and_day Basic b2 ≡ Err f)
unfolding month_and_day digits_within
month_alone None b2 b4 e h = (component (codes "month"), rw e refl)
month_alone (Some m) b2 b4 e h = (component (codes "day"), rw (e, h) refl)

month_of_two : (b2 b4 : List ℕ) (n : ℕ) → digits 2 b2 ≡ Some (n, b4) → numbered 2 months b2 ≡ option_map (λ m. (m, b4)) (counted months n)
unfolding numbered
month_of_two b2 b4 n e = rw e refl

-- ---- days

of_ordinal : (y o m d : ℕ) → NamesOrdinal y o m d → NamesDay (OfYear (pos y) o) y m d
of_ordinal y o m d named = count_names (OfYear (pos y) o) (pos y) y m d named.count named.named refl named.day_is

numbered_weekday : (bytes rest : List ℕ) (n : ℕ) (w : Weekday) → digits 1 bytes ≡ Some (n, rest) → 1 ≤ n → days_from_monday w ≡ n - 1 → numbered 1 weekdays bytes ≡ Some (w, rest)
unfolding numbered
numbered_weekday bytes rest n w e some is = rw e (rw (weekday_entry w n some is) refl)

week_names : (y week weekday m d : ℕ) (w : Weekday) → days_from_monday w ≡ weekday → NamesWeekDay y week weekday m d → NamesDay (OfWeek (pos y) week w) y m d
week_names y week weekday m d w is named = count_names (OfWeek (pos y) week w) (pos y) y m d named.count (rw is named.named) refl named.day_is

-- no month has more than 31 days
few_days : (y : ℤ) (m d : ℕ) → IsDay y m d → d ≤ 31
few_days y m d h = let most = h.4 in grind (arith, nat_tests)

-- the kind of a text with hyphens and colons, or without
abbrev pub kind_of : Bool → Kind
kind_of true = Extended
kind_of false = Basic

-- ---- dates that texts say

calendar_read : (is_extended : Bool) (bytes rest : List ℕ) (v : Values) → Says (date_parts Calendar is_extended) bytes v rest → IsDay (pos (v field.Year)) (v field.Month) (v field.Day) → ReadsDay bytes (v field.Year) (v field.Month) (v field.Day) (kind_of is_extended) rest
unfolding dated year_and_kind kind_of_date date_after month_and_day date_of_month
calendar_read true bytes rest v says is_day =
    let month = says.2.2 in
    let day = month.2.2 in
    let m = named_month (v field.Month) is_day.1 is_day.2 in (
      OfMonth (pos (v field.Year)) m.0 (v field.Day),
      date_of_pieces bytes says.0 says.2.0 month.0 month.2.0 rest (v field.Year) (v field.Month) (v field.Day) m.0 says.1 (literal_said _ _ says.2.1) month.1 m.1 (literal_said _ _ month.2.1) (rw day.2 at day.1) is_day.3 (few_days (pos (v field.Year)) (v field.Month) (v field.Day) is_day),
      month_names (pos (v field.Year)) m.0 (v field.Year) (v field.Month) (v field.Day) refl m.1,
    )
calendar_read false bytes rest v says is_day =
    let month = says.2 in
    let day = month.2 in
    let few = few_days (pos (v field.Year)) (v field.Month) (v field.Day) is_day in
    let m = named_month (v field.Month) is_day.1 is_day.2 in (
      OfMonth (pos (v field.Year)) m.0 (v field.Day),
      rw (year_of bytes (v field.Year) says.0 says.1, no_byte hyphen 2 says.0 (v field.Month, month.0) refl (lit≤ tt) month.1, month_of says.0 m.0 (v field.Month) month.0 month.1 m.1, within 2 1 99 month.0 (v field.Day) rest (rw day.2 at day.1) is_day.3 (omega (arith, few)), le-leb (v field.Day) 31 few) refl,
      month_names (pos (v field.Year)) m.0 (v field.Year) (v field.Month) (v field.Day) refl m.1,
    )

ordinal_read : (is_extended : Bool) (bytes rest after : List ℕ) (v : Values) (month day : ℕ) → Says (date_parts Ordinal is_extended) bytes v rest → rest ≡ time_designator ∷ after → 1 ≤ v field.OrdinalTens * 10 + v field.OrdinalOnes → v field.OrdinalTens * 10 + v field.OrdinalOnes ≤ 365
    → NamesOrdinal (v field.Year) (v field.OrdinalTens * 10 + v field.OrdinalOnes) month day → ReadsDay bytes (v field.Year) month day (kind_of is_extended) rest
unfolding dated year_and_kind kind_of_date date_after date_without_month date_of_year
ordinal_read true bytes rest after v month day says next some most named =
    let tens = says.2.2 in
    let ones = tens.2 in
    let ordinal = v field.OrdinalTens * 10 + v field.OrdinalOnes in
    let last = rw ones.2 at ones.1 in
    let three = three_after says.2.0 tens.0 rest (v field.OrdinalTens) (v field.OrdinalOnes) tens.1 last in
    let none = month_or_none (counted months (v field.OrdinalTens)) says.2.0 tens.0 (month_of_two says.2.0 tens.0 (v field.OrdinalTens) tens.1) (no_byte hyphen 1 tens.0 (v field.OrdinalOnes, rest) refl (lit≤ tt) last) in (
      OfYear (pos (v field.Year)) ordinal,
      rw (year_of bytes (v field.Year) says.0 says.1, literal_said _ _ says.2.1, none.1, within 3 1 999 says.2.0 ordinal rest three some (omega (arith, most)), le-leb ordinal 366 (omega (arith, most))) refl,
      of_ordinal (v field.Year) ordinal month day named,
    )
ordinal_read false bytes rest after v month day says next some most named =
    let tens = says.2 in
    let ones = tens.2 in
    let ordinal = v field.OrdinalTens * 10 + v field.OrdinalOnes in
    let last = rw ones.2 at ones.1 in
    let three = three_after says.0 tens.0 rest (v field.OrdinalTens) (v field.OrdinalOnes) tens.1 last in
    let none = month_alone (counted months (v field.OrdinalTens)) says.0 tens.0 (month_of_two says.0 tens.0 (v field.OrdinalTens) tens.1) (no_two tens.0 rest after (v field.OrdinalOnes) last next) in (
      OfYear (pos (v field.Year)) ordinal,
      rw (year_of bytes (v field.Year) says.0 says.1, no_byte hyphen 2 says.0 (v field.OrdinalTens, tens.0) refl (lit≤ tt) tens.1, none.1, within 3 1 999 says.0 ordinal rest three some (omega (arith, most)), le-leb ordinal 366 (omega (arith, most))) refl,
      of_ordinal (v field.Year) ordinal month day named,
    )

week_read : (is_extended : Bool) (bytes rest : List ℕ) (v : Values) (month day : ℕ) → Says (date_parts Week is_extended) bytes v rest → 1 ≤ v field.Weekday → v field.Weekday ≤ 7 → NamesWeekDay (v field.Year) (v field.IsoWeek) (v field.Weekday - 1) month day → ReadsDay bytes (v field.Year) month day (kind_of is_extended) rest
unfolding dated year_and_kind kind_of_date date_after month_and_day date_without_month date_of_week week_and_weekday numbered digits_within
week_read true bytes rest v month day says some most named =
    let letter = says.2.2 in
    let week = letter.2 in
    let weekday = week.2.2 in
    let w = weekday_of (v field.Weekday - 1) (omega (arith, most)) in
    let there = literal_said _ _ letter.1 in
    let no = no_number says.2.0 letter.0 (byte_is week_designator says.2.0 letter.0 there) in (
      OfWeek (pos (v field.Year)) (v field.IsoWeek) w.0,
      rw (year_of bytes (v field.Year) says.0 says.1, literal_said _ _ says.2.1, no.two, no.three, there, within 2 1 99 letter.0 (v field.IsoWeek) week.0 week.1 named.some (omega (arith, named.most)), literal_said _ _ week.2.1, numbered_weekday week.2.0 rest (v field.Weekday) w.0 (rw weekday.2 at weekday.1) some w.1, le-leb (v field.IsoWeek) 53 named.most) refl,
      week_names (v field.Year) (v field.IsoWeek) (v field.Weekday - 1) month day w.0 w.1 named,
    )
week_read false bytes rest v month day says some most named =
    let letter = says.2 in
    let week = letter.2 in
    let weekday = week.2 in
    let w = weekday_of (v field.Weekday - 1) (omega (arith, most)) in
    let there = literal_said _ _ letter.1 in
    let no = no_number says.0 letter.0 (byte_is week_designator says.0 letter.0 there) in (
      OfWeek (pos (v field.Year)) (v field.IsoWeek) w.0,
      rw (year_of bytes (v field.Year) says.0 says.1, no.hyphen_there, no.two, no.three, there, within 2 1 99 letter.0 (v field.IsoWeek) week.0 week.1 named.some (omega (arith, named.most)), numbered_weekday week.0 rest (v field.Weekday) w.0 (rw weekday.2 at weekday.1) some w.1, le-leb (v field.IsoWeek) 53 named.most) refl,
      week_names (v field.Year) (v field.IsoWeek) (v field.Weekday - 1) month day w.0 w.1 named,
    )

-- the two numbers of a date after its year
abbrev pub high_of : Dating → Values → ℕ
high_of Calendar v = v field.Month
high_of Ordinal v = v field.OrdinalTens
high_of Week v = v field.IsoWeek

abbrev pub low_of : Dating → Values → ℕ
low_of Calendar v = v field.Day
low_of Ordinal v = v field.OrdinalOnes
low_of Week v = v field.Weekday

-- a date of any form, before a `T`
pub date_read : (dating : Dating) (is_extended : Bool) (bytes rest after : List ℕ) (v : Values) (month day : ℕ) → Says (date_parts dating is_extended) bytes v rest → rest ≡ time_designator ∷ after → NamesDate dating (v field.Year) (high_of dating v) (low_of dating v) month day
    → ReadsDay bytes (v field.Year) month day (kind_of is_extended) rest
date_read Calendar is_extended bytes rest after v month day says next n = grind (arith, nat_tests, calendar_read)
date_read Ordinal is_extended bytes rest after v month day says next n = let o = n.ordinal refl in ordinal_read is_extended bytes rest after v month day says next o.0 o.1 o.2
date_read Week is_extended bytes rest after v month day says next n = let w = n.week refl in week_read is_extended bytes rest v month day says w.0 w.1 w.2
