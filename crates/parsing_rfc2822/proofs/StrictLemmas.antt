-- The strict reading against the one that is not: the same where all numbers are in range.
use Rattle.std.proofs.Common.{◌≡◌, ℕ, ◌≤◌, Bool, true, false, List, Option, Some, None, Result, Ok, refl, arith}
use Rattle.std.specs.Borrow.{Bor}
use Rattle.std.specs.Prelude.{◌↔◌, IfOk, IfSome}
use Rattle.std.specs.Int.{IsInRange}
use Rattle.calendar_count.specs.declared.weekday.Weekday.{Weekday}
use Rattle.parsing_combinator.specs.Fault.{Fault, literal}
use Rattle.parsing_combinator.specs.FaultOf.{Gives, reading_fault}
use Rattle.parsing_combinator.specs.Pieces.{sign}
use Rattle.parsing_combinator.specs.Readings.{piece_or, give, then_read, within}
use Rattle.parsing_combinator.specs.declared.fault.ParseFromDescription.{ParseFromDescription}
use Rattle.parsing_combinator.specs.declared.zone.Zone.{Zone}
use Rattle.parsing_combinator.proofs.lemmas.Strict.{Misses, Narrows, Says, given, denied, then_misses, then_narrows, plain_then, checked, entered_narrows, within_yes, within_no, same_narrows, narrows_iff, strict_passes}
use Rattle.parsing_rfc2822.specs.Skips.{optional, past}
use Rattle.parsing_rfc2822.specs.WhiteSpace.{comments_and_white_space}
use Rattle.parsing_rfc2822.specs.declared.parts.Rfc2822Parts.{Rfc2822Parts}
use Rattle.std.proofs.lemmas.Bool.Decides.{nat_tests}
use Rattle.parsing_rfc2822.specs.Names.{zone_of, military_zone, short_zone, zone_name}
use Rattle.parsing_rfc2822.specs.Range.{AreInRange}
use Rattle.parsing_rfc2822.specs.Reading.{day, month_and_year, hour_and_minute, due_second, second, clock, signed_zone, named_zone, zone, spaced_zone, rfc2822}

-- a check of the strict reading tells of its number
most : (n low high : ℕ) → within true low high n ≡ true → n ≤ high
most n low high e = (within_yes low high n e).1

both : {A B : Type 0} → A → B → A × B
both a b = (a, b)

ruleset narrows = (plain_then, checked, given, then_misses, entered_narrows, most, within_yes, both)

abbrev is_day : Option Weekday × ℕ → Type 0
is_day x = IsInRange 1 31 x.1

no_day : (w : Option Weekday) (n : ℕ) (bytes : List ℕ) → within true 1 31 n ≡ false → Misses is_day (Ok ((w, n), bytes))
no_day w n bytes out = denied _ _ bytes (within_no 1 31 n out)

day_narrows : (bytes : List ℕ) → Narrows is_day (day true bytes) (day false bytes)
unfolding day
day_narrows b0 = search (narrows, no_day) depth 20 fits 5000

abbrev is_hour_and_minute : ℕ × ℕ → Type 0
is_hour_and_minute x = (x.0 ≤ 23) × (x.1 ≤ 59)

no_hour : (h m : ℕ) (bytes : List ℕ) → within true 0 23 h ≡ false → Misses is_hour_and_minute (Ok ((h, m), bytes))
no_hour h m bytes out = denied _ _ bytes (λ p. within_no 0 23 h out (omega arith, p.0))

no_minute : (h m : ℕ) (bytes : List ℕ) → within true 0 59 m ≡ false → Misses is_hour_and_minute (Ok ((h, m), bytes))
no_minute h m bytes out = denied _ _ bytes (λ p. within_no 0 59 m out (omega arith, p.1))

hour_and_minute_narrows : (bytes : List ℕ) → Narrows is_hour_and_minute (hour_and_minute true bytes) (hour_and_minute false bytes)
unfolding hour_and_minute
hour_and_minute_narrows b0 = search (narrows, no_hour, no_minute) depth 20 fits 5000

abbrev is_second : Option ℕ → Type 0
is_second o = IfSome o (λ n. n ≤ 60)

no_second : (n : ℕ) (bytes : List ℕ) → within true 0 60 n ≡ false → Misses is_second (Ok (Some n, bytes))
no_second n bytes out = denied _ _ bytes (λ p. within_no 0 60 n out (omega arith, p))

none_given : (bytes : List ℕ) → Narrows is_second (Ok (None, bytes)) (Ok (None, bytes))
none_given bytes = given is_second None bytes tt

second_narrows : (bytes : List ℕ) → Narrows is_second (second true bytes) (second false bytes)
unfolding second due_second
second_narrows b0 = search (narrows, no_second, none_given) depth 20 fits 5000

abbrev is_clock : ℕ × ℕ × Option ℕ → Type 0
is_clock x = (x.0 ≤ 23) × (x.1 ≤ 59) × is_second x.2

clock_narrows : (bytes : List ℕ) → Narrows is_clock (clock true bytes) (clock false bytes)
unfolding clock
clock_narrows b0 =
    then_narrows is_hour_and_minute is_clock _ _ _ _ (hour_and_minute_narrows b0)
    (λ t b1 p.
    then_narrows is_second is_clock _ _ _ _ (second_narrows b1)
    (λ s b2 q. given is_clock (t.0, t.1, s) b2 (p.0, p.1, q))
    (λ s b2 no. denied is_clock (t.0, t.1, s) b2 (λ q. no q.2)))
    (λ t b1 no.
    then_misses is_clock (second false b1) _ (λ s b2. denied is_clock (t.0, t.1, s) b2 (λ q. no (q.0, q.1))))

abbrev is_zone : Zone → Type 0
is_zone z = (z.hours ≤ 25) × (z.minutes ≤ 59)

no_hours : (z : Zone) (bytes : List ℕ) → within true 0 25 z.hours ≡ false → Misses is_zone (Ok (z, bytes))
no_hours z bytes out = denied _ _ bytes (λ p. within_no 0 25 z.hours out (omega arith, p.0))

no_minutes : (z : Zone) (bytes : List ℕ) → within true 0 59 z.minutes ≡ false → Misses is_zone (Ok (z, bytes))
no_minutes z bytes out = denied _ _ bytes (λ p. within_no 0 59 z.minutes out (omega arith, p.1))

signed_zone_narrows : (s : ℕ) (bytes : List ℕ) → Narrows is_zone (signed_zone true s bytes) (signed_zone false s bytes)
unfolding signed_zone
signed_zone_narrows s b0 = search (narrows, no_hours, no_minutes) depth 20 fits 5000

-- no zone with a name has more than 8 hours
zone_small : (bytes : List ℕ) (x : ℕ × List ℕ) → zone_name bytes ≡ Some x → x.0 ≤ 8
unfolding zone_name short_zone military_zone zone_of
zone_small bytes x e = grind (arith, nat_tests, e)

named_zone_by : (o : Option (ℕ × List ℕ)) (e : Fault) (f : ℕ → Zone) → ((x : ℕ × List ℕ) → o ≡ Some x → x.0 ≤ 8) → ((n : ℕ) → n ≤ 8 → is_zone (f n)) → Says is_zone (then_read (piece_or e o) (λ n. give (f n)))
named_zone_by None e f h k = record { holds = tt }
named_zone_by (Some x) e f h k = record { holds = k x.0 (h x refl) }

named_zone_says : (bytes : List ℕ) → Says is_zone (named_zone bytes)
unfolding named_zone
named_zone_says bytes =
    named_zone_by (zone_name bytes) _ (λ n. record { is_named = true; is_negative = true; hours = n; minutes = 0 }) (zone_small bytes) (λ n h. (omega arith, omega arith))

zone_narrows : (bytes : List ℕ) → Narrows is_zone (zone true bytes) (zone false bytes)
unfolding zone
zone_narrows b0 =
    entered_narrows is_zone (sign b0) (signed_zone true) (signed_zone false) named_zone named_zone b0 signed_zone_narrows (same_narrows is_zone (named_zone b0) (named_zone_says b0))

spaced_zone_narrows : (bytes : List ℕ) → Narrows is_zone (spaced_zone true bytes) (spaced_zone false bytes)
unfolding spaced_zone
spaced_zone_narrows b0 =
    plain_then is_zone (piece_or literal (past comments_and_white_space b0)) _ _ (λ before b1.
    then_narrows is_zone is_zone _ _ _ _ (zone_narrows b1) (λ z b2 p. given is_zone z (optional comments_and_white_space b2) p) (λ z b2 no. denied is_zone z (optional comments_and_white_space b2) no))

-- ---- the whole

rfc2822_narrows : (bytes : List ℕ) → Narrows AreInRange (rfc2822 true bytes) (rfc2822 false bytes)
unfolding rfc2822
rfc2822_narrows b0 =
    then_narrows is_day AreInRange _ _ _ _ (day_narrows b0)
    (λ d b1 in_day.
    plain_then AreInRange (month_and_year b1) _ _ (λ m b2.
    then_narrows is_clock AreInRange _ _ _ _ (clock_narrows b2)
    (λ t b3 in_clock.
    then_narrows is_zone AreInRange _ _ _ _ (spaced_zone_narrows b3)
    (λ z b4 in_zone. given AreInRange _ b4 (record { day = in_day; hour = in_clock.0; minute = in_clock.1; second = in_clock.2; zone_hours = in_zone.0; zone_minutes = in_zone.1 }))
    (λ z b4 no. denied AreInRange _ b4 (λ w. no (w.zone_hours, w.zone_minutes))))
    (λ t b3 no.
    then_misses AreInRange (spaced_zone false b3) _ (λ z b4. denied AreInRange _ b4 (λ w. no (w.hour, w.minute, w.second))))))
    (λ d b1 no.
    then_misses AreInRange (month_and_year b1) _ (λ m b2.
    then_misses AreInRange (clock false b2) _ (λ t b3.
    then_misses AreInRange (spaced_zone false b3) _ (λ z b4. denied AreInRange _ b4 (λ w. no w.day)))))

pub strict_is_in_range : (bytes : List ℕ) (w : Rfc2822Parts) (rest : List ℕ) → (rfc2822 true bytes ≡ Ok (w, rest)) ↔ ((rfc2822 false bytes ≡ Ok (w, rest)) × AreInRange w)
strict_is_in_range bytes w rest = narrows_iff AreInRange (rfc2822 true bytes) (rfc2822 false bytes) (rfc2822_narrows bytes) w rest

-- what a function returns that gives the strict reading
pub prefix_in_range : (is_strict : Bool) (result : Result (Rfc2822Parts × Bor (List ℕ)) ParseFromDescription) (bytes : List ℕ) → Gives (λ x. (x.0, x.1.now)) reading_fault result (rfc2822 is_strict bytes) → is_strict ≡ true → IfOk result (λ x. AreInRange x.0)
prefix_in_range true result bytes given e = strict_passes AreInRange (λ w. w) result (rfc2822 true bytes) (rfc2822 false bytes) given (rfc2822_narrows bytes)
prefix_in_range false result bytes given e = absurd cc
