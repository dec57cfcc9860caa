-- Lines at one offset compare as the instants.
use Rattle.std.proofs.Common.{◌≡◌, ℕ, ◌+◌, ◌*◌, ◌/◌, ◌%◌, ◌^◌, ◌<◌, ◌≤◌, inl, inr, refl, sym, ap, ◌∙◌, arith, Ordering, Less, Equal, Greater, ℤ, pos, ◌+ℤ◌, ◌-ℤ◌, ◌*ℤ◌, ◌<ℤ◌, ◌≤ℤ◌, unsigned_abs}
use Rattle.std.specs.Prelude.{codes, IsTrue}
use Rattle.std.specs.Ordering.{nat_cmp, int_cmp, ordering_then}
use Rattle.std.proofs.lemmas.Bool.{cases_order}
use Rattle.std.proofs.lemmas.Bool.Decides.{nat_tests}
use Rattle.std.proofs.lemmas.Int.{ints}
use Rattle.calendar_count.specs.Range.{IsCount, unix_epoch}
use Rattle.calendar_count.specs.Calendar.{YearMonthDay, days_in_month, day_at, ComesBefore}
use Rattle.calendar_count.proofs.lemmas.Signed.{signed}
use Rattle.calendar_count.proofs.lemmas.Days.{days_in_order, day_valid}
use Rattle.datetime_wall.specs.Wall.{Shown, second_nanos, day_nanos, wall_clock, day_of, nanosecond_of, instant, IsWallClock}
use Rattle.datetime_wall.proofs.lemmas.WallClocks.{wall_clock_parts, nanosecond_of_bound, day_of_bound}
use Rattle.instants_answers.specs.Text.{date_text, time_text, offset_text, moment_text, has_written_year}
use Rattle.instants_answers.specs.Written.{IsWritten}
use Rattle.instants_answers.proofs.Compares.{Compares, same_field, next_field, decimal_field, cmp_mixed, cmp_parts}

-- four digits write the year
abbrev pub HasYear : YearMonthDay → Type 0
HasYear t = (pos 0 ≤ℤ t.year) × (t.year ≤ℤ pos 9999)

-- the order of year, month and day, as the fields of a date's text show it
abbrev date_order : YearMonthDay → YearMonthDay → Ordering
date_order t u =
    ordering_then (ordering_then (ordering_then (ordering_then (nat_cmp (unsigned_abs t.year) (unsigned_abs u.year)) Equal) (nat_cmp t.month u.month)) Equal) (nat_cmp t.day u.day)

years_lt : (y z : ℤ) → pos 0 ≤ℤ y → y <ℤ z → unsigned_abs y < unsigned_abs z
years_lt y z low h = omega (arith, signed)

earlier : (t u : YearMonthDay) → HasYear t → HasYear u → ComesBefore t u → (date_order t u ≡ Less) × (date_order u t ≡ Greater)
earlier t u h k (inl year) = let lt = years_lt t.year u.year h.0 year in (grind (arith, nat_tests), grind (arith, nat_tests))
earlier t u h k (inr (year, inl month)) = rw year (grind (arith, nat_tests), grind (arith, nat_tests))
earlier t u h k (inr (year, inr day)) = rw (year, day.0) (grind (arith, nat_tests), grind (arith, nat_tests))

same_day : (t : YearMonthDay) → date_order t t ≡ Equal
same_day t = grind (arith, nat_tests)

date_order-counts : (c d : ℕ) → HasYear (day_at c) → HasYear (day_at d) → date_order (day_at c) (day_at d) ≡ nat_cmp c d
date_order-counts c d h k =
    elim (cases_order c d) [
      | inl same ↦ rw same (same_day (day_at d) ∙ grind (arith, nat_tests))
      | inr (inl lt) ↦ (earlier (day_at c) (day_at d) h k ((days_in_order c d).0 lt)).0 ∙ grind (arith, nat_tests)
      | inr (inr gt) ↦ (earlier (day_at d) (day_at c) k h ((days_in_order d c).0 gt)).1 ∙ grind (arith, nat_tests)
    ]

-- each part of a day fits its field
pub record Fits (t : YearMonthDay) : Type 0 where
  pub year : unsigned_abs t.year < 10 ^ 4
  pub month : t.month < 10 ^ 2
  pub day : t.day < 10 ^ 2

year_fits : (y : ℤ) → pos 0 ≤ℤ y → y ≤ℤ pos 9999 → unsigned_abs y < 10 ^ 4
year_fits y low high = omega (arith, signed)

most_days : (y : ℤ) (m : ℕ) → days_in_month y m ≤ 31
most_days y m = grind arith

pub day_fits : (c : ℕ) → IsCount c → HasYear (day_at c) → Fits (day_at c)
day_fits c count h =
    let valid = day_valid c count in
    record {
      year = year_fits (day_at c).year h.0 h.1;
      month = omega (arith, valid);
      day = omega (arith, valid, most_days (day_at c).year (day_at c).month);
    }

pub date_field : (c d : ℕ) → IsCount c → IsCount d → HasYear (day_at c) → HasYear (day_at d) → Compares (date_text (day_at c)) (date_text (day_at d)) (nat_cmp c d)
unfolding date_text
date_field c d count other h k =
    let t = day_at c in
    let u = day_at d in
    let p = day_fits c count h in
    let q = day_fits d other k in
    let year = decimal_field 4 (unsigned_abs t.year) (unsigned_abs u.year) p.year q.year in
    let month = decimal_field 2 t.month u.month p.month q.month in
    let day = decimal_field 2 t.day u.day p.day q.day in
    rw (← date_order-counts c d h k) (next_field (next_field (next_field (next_field year (same_field (codes "-"))) month) (same_field (codes "-"))) day)

abbrev time_order : ℕ → ℕ → Ordering → Ordering
time_order s r o =
    ordering_then (ordering_then (ordering_then (ordering_then (ordering_then (ordering_then (nat_cmp (s / 3600) (r / 3600)) Equal) (nat_cmp (s / 60 % 60) (r / 60 % 60))) Equal) (nat_cmp (s % 60) (r % 60))) Equal) o

time_order-seconds : (s r : ℕ) (o : Ordering) → time_order s r o ≡ ordering_then (nat_cmp s r) o
time_order-seconds s r o = grind (arith, nat_tests)

pub time_field : (s r n k : ℕ) → s < 86_400 → r < 86_400 → n < second_nanos → k < second_nanos → Compares (time_text s n) (time_text r k) (ordering_then (nat_cmp s r) (nat_cmp n k))
unfolding time_text
time_field s r n k h g i j =
    let hour = decimal_field 2 (s / 3600) (r / 3600) (omega arith) (omega arith) in
    let minute = decimal_field 2 (s / 60 % 60) (r / 60 % 60) (omega arith) (omega arith) in
    let second = decimal_field 2 (s % 60) (r % 60) (omega arith) (omega arith) in
    let nanosecond = decimal_field 9 n k i j in
    rw (← time_order-seconds s r (nat_cmp n k)) (next_field (next_field (next_field (next_field (next_field (next_field hour (same_field (codes ":"))) minute) (same_field (codes ":"))) second) (same_field (codes "."))) nanosecond)

-- integers that are naturals moved alike compare as these
moved : (x y s : ℤ) (m n : ℕ) → x ≡ pos m +ℤ s → y ≡ pos n +ℤ s → int_cmp x y ≡ nat_cmp m n
moved x y s m n e f =
    elim (cases_order m n) [
      | inl same ↦ let z : x ≡ y = rw (e, f, same) refl in grind (arith, nat_tests, ints)
      | inr (inl lt) ↦ let z : x <ℤ y = omega (arith, signed) in grind (arith, nat_tests, ints)
      | inr (inr gt) ↦ let z : y <ℤ x = omega (arith, signed) in grind (arith, nat_tests, ints)
    ]

abbrev moved_by : ℤ → ℤ
moved_by offset = pos 0 -ℤ pos (unix_epoch * day_nanos) -ℤ offset *ℤ pos second_nanos

wall-moved : (offset : ℤ) (c n : ℕ) → wall_clock c n -ℤ offset *ℤ pos second_nanos ≡ pos (c * day_nanos + n) +ℤ moved_by offset
unfolding wall_clock
wall-moved offset c n = omega (arith, signed)

instant-moved : (m : Shown) (offset : ℤ) → IsWallClock m.wall → m.offset ≡ offset → instant m ≡ pos (day_of m.wall * day_nanos + nanosecond_of m.wall) +ℤ moved_by offset
instant-moved m offset h e =
    let parts = wall_clock_parts m.wall h in
    let moved = wall-moved offset (day_of m.wall) (nanosecond_of m.wall) in
    ap (λ o. m.wall -ℤ o *ℤ pos second_nanos) e ∙ (rw parts at moved)

instants : (a b : Shown) → IsWallClock a.wall → IsWallClock b.wall → a.offset ≡ b.offset
    → ordering_then (nat_cmp (day_of a.wall) (day_of b.wall)) (nat_cmp (nanosecond_of a.wall) (nanosecond_of b.wall)) ≡ int_cmp (instant a) (instant b)
instants a b h g e =
    let one = instant-moved a b.offset h e in
    let other = instant-moved b b.offset g refl in
    cmp_mixed day_nanos (day_of a.wall) (day_of b.wall) (nanosecond_of a.wall) (nanosecond_of b.wall) (nanosecond_of_bound a.wall) (nanosecond_of_bound b.wall)
    ∙ sym (moved (instant a) (instant b) (moved_by b.offset) _ _ one other)

then_same : (o p : Ordering) → ordering_then (ordering_then (ordering_then o Equal) p) Equal ≡ ordering_then o p
then_same o p = grind arith

pub has_year : (m : Shown) → IsTrue (has_written_year m) → HasYear (day_at (day_of m.wall))
unfolding has_written_year
has_year m h = grind (arith, ints)

pub line_field : (a b : Shown) → IsWritten a → IsWritten b → a.offset ≡ b.offset → Compares (moment_text a) (moment_text b) (int_cmp (instant a) (instant b))
unfolding moment_text
line_field a b h g e =
    let n = nanosecond_of a.wall in
    let k = nanosecond_of b.wall in
    let small = nanosecond_of_bound a.wall in
    let little = nanosecond_of_bound b.wall in
    let date = date_field (day_of a.wall) (day_of b.wall) (day_of_bound a.wall h.0) (day_of_bound b.wall g.0) (has_year a h.1) (has_year b g.1) in
    let time = time_field (n / second_nanos) (k / second_nanos) (n % second_nanos) (k % second_nanos) (omega arith) (omega arith) (omega arith) (omega arith) in
    let whole : Compares _ _ (nat_cmp n k) = rw (cmp_parts second_nanos n k (omega arith)) at time in
    let offset : Compares (offset_text a.offset) (offset_text b.offset) Equal = rw e (same_field (offset_text b.offset)) in
    rw (← instants a b h.0 g.0 e, ← then_same (nat_cmp (day_of a.wall) (day_of b.wall)) (nat_cmp n k)) (next_field (next_field (next_field date (same_field (codes "T"))) whole) offset)
