-- The strict reading against the one that is not: the same where all numbers are in range.
use Rattle.std.proofs.Common.{◌≡◌, ℕ, ◌≤◌, ◌&&◌, Bool, true, false, List, Result, Ok, arith}
use Rattle.std.specs.Borrow.{Bor}
use Rattle.std.specs.Prelude.{◌↔◌, IfOk, codes, nat_lt}
use Rattle.std.specs.Int.{IsInRange}
use Rattle.std.proofs.lemmas.Bool.{and_parts}
use Rattle.std.proofs.lemmas.Bool.Decides.{nat_tests}
use Rattle.parsing_combinator.specs.Fault.{Fault, component}
use Rattle.parsing_combinator.specs.FaultOf.{Gives, reading_fault}
use Rattle.parsing_combinator.specs.Pieces.{any_byte}
use Rattle.parsing_combinator.specs.Readings.{Reading, then_read, piece_or, give, require, within}
use Rattle.parsing_combinator.specs.declared.fault.ParseFromDescription.{ParseFromDescription}
use Rattle.parsing_combinator.specs.declared.zone.Zone.{Zone}
use Rattle.parsing_combinator.proofs.lemmas.Strict.{Misses, Narrows, given, denied, then_misses, then_narrows, plain_then, checked, entered_narrows, within_yes, within_no, narrows_iff, strict_passes}
use Rattle.parsing_rfc3339.specs.declared.parts.Rfc3339Parts.{Rfc3339Parts}
use Rattle.parsing_rfc3339.specs.Range.{AreInRange}
use Rattle.parsing_rfc3339.specs.Reading.{date, clock, subsecond, zulu, signed_offset, offset, rfc3339}

-- a check of the strict reading tells of its number
most : (n low high : ℕ) → within true low high n ≡ true → n ≤ high
most n low high e = (within_yes low high n e).1

both : {A B : Type 0} → A → B → A × B
both a b = (a, b)

ruleset narrows = (plain_then, checked, given, then_misses, entered_narrows, most, within_yes, both)

abbrev is_date : ℕ × ℕ × ℕ → Type 0
is_date x = IsInRange 1 12 x.1 × IsInRange 1 31 x.2

-- a month that the strict reading lets pass isn't 0
some_month : (m : ℕ) → (within true 1 12 m && nat_lt 0 m) ≡ true → (IsInRange 1 12 m) × (nat_lt 0 m ≡ true)
some_month m e = let p = and_parts (within true 1 12 m) (nat_lt 0 m) e in (within_yes 1 12 m p.0, p.1)

month_in : (m : ℕ) → (within true 1 12 m && nat_lt 0 m) ≡ true → IsInRange 1 12 m
month_in m e = (some_month m e).0

-- .. which the other reading does not let pass either
month_there : {B : Type 0} (Q : B → Type 0) (m : ℕ) (fault : Fault) (bytes : List ℕ) (r : Result (B × List ℕ) Fault) (g : Unit {0} → Reading B) → (within true 1 12 m && nat_lt 0 m) ≡ true → Narrows Q r (g tt bytes) → Narrows Q r (then_read (require (nat_lt 0 m) fault bytes) g)
month_there Q m fault bytes r g passes n = rw (some_month m passes).1 n

no_month : (y m d : ℕ) (bytes : List ℕ) → (within true 1 12 m && nat_lt 0 m) ≡ false → Misses is_date (Ok ((y, m, d), bytes))
no_month y m d bytes out = denied _ _ bytes (λ p. let in_year = p.0 in grind (arith, nat_tests))

no_day : (y m d : ℕ) (bytes : List ℕ) → within true 1 31 d ≡ false → Misses is_date (Ok ((y, m, d), bytes))
no_day y m d bytes out = denied _ _ bytes (λ p. within_no 1 31 d out p.1)

date_narrows : (bytes : List ℕ) → Narrows is_date (date true bytes) (date false bytes)
unfolding date
date_narrows b0 = search (narrows, month_in, month_there, no_month, no_day) depth 20 fits 5000

abbrev is_clock : ℕ × ℕ × ℕ → Type 0
is_clock x = (x.0 ≤ 23) × (x.1 ≤ 59) × (x.2 ≤ 60)

no_hour : (h m s : ℕ) (bytes : List ℕ) → within true 0 23 h ≡ false → Misses is_clock (Ok ((h, m, s), bytes))
no_hour h m s bytes out = denied _ _ bytes (λ p. within_no 0 23 h out (omega arith, p.0))

no_minute : (h m s : ℕ) (bytes : List ℕ) → within true 0 59 m ≡ false → Misses is_clock (Ok ((h, m, s), bytes))
no_minute h m s bytes out = denied _ _ bytes (λ p. within_no 0 59 m out (omega arith, p.1))

no_second : (h m s : ℕ) (bytes : List ℕ) → within true 0 60 s ≡ false → Misses is_clock (Ok ((h, m, s), bytes))
no_second h m s bytes out = denied _ _ bytes (λ p. within_no 0 60 s out (omega arith, p.2))

clock_narrows : (bytes : List ℕ) → Narrows is_clock (clock true bytes) (clock false bytes)
unfolding clock
clock_narrows b0 = search (narrows, no_hour, no_minute, no_second) depth 30 fits 9000

abbrev is_zone : Zone → Type 0
is_zone z = (z.hours ≤ 25) × (z.minutes ≤ 59)

signed_narrows : (bytes : List ℕ) → Narrows is_zone (signed_offset true bytes) (signed_offset false bytes)
unfolding signed_offset
signed_narrows b0 = grind (arith, nat_tests)

offset_narrows : (bytes : List ℕ) → Narrows is_zone (offset true bytes) (offset false bytes)
unfolding offset
offset_narrows b0 =
    entered_narrows is_zone (zulu b0) (λ _. give (record { is_named = true; is_negative = false; hours = 0; minutes = 0 })) (λ _. give (record { is_named = true; is_negative = false; hours = 0; minutes = 0 })) (signed_offset true) (signed_offset false) b0 (λ z rest. given is_zone _ rest (omega arith, omega arith)) (signed_narrows b0)

rfc3339_narrows : (bytes : List ℕ) → Narrows AreInRange (rfc3339 true bytes) (rfc3339 false bytes)
unfolding rfc3339
rfc3339_narrows b0 =
    then_narrows is_date AreInRange _ _ _ _ (date_narrows b0)
    (λ d b1 in_date.
    plain_then AreInRange (piece_or (component (codes "separator")) (any_byte b1)) _ _ (λ between b2.
    then_narrows is_clock AreInRange _ _ _ _ (clock_narrows b2)
    (λ t b3 in_clock.
    plain_then AreInRange (subsecond b3) _ _ (λ n b4.
    then_narrows is_zone AreInRange _ _ _ _ (offset_narrows b4)
    (λ z b5 in_zone. given AreInRange _ b5 (record { month = in_date.0; day = in_date.1; hour = in_clock.0; minute = in_clock.1; second = in_clock.2; zone_hours = in_zone.0; zone_minutes = in_zone.1 }))
    (λ z b5 no. denied AreInRange _ b5 (λ w. no (w.zone_hours, w.zone_minutes)))))
    (λ t b3 no.
    then_misses AreInRange (subsecond b3) _ (λ n b4.
    then_misses AreInRange (offset false b4) _ (λ z b5. denied AreInRange _ b5 (λ w. no (w.hour, w.minute, w.second)))))))
    (λ d b1 no.
    then_misses AreInRange (piece_or (component (codes "separator")) (any_byte b1)) _ (λ between b2.
    then_misses AreInRange (clock false b2) _ (λ t b3.
    then_misses AreInRange (subsecond b3) _ (λ n b4.
    then_misses AreInRange (offset false b4) _ (λ z b5. denied AreInRange _ b5 (λ w. no (w.month, w.day)))))))

pub strict_is_in_range : (bytes : List ℕ) (w : Rfc3339Parts) (rest : List ℕ) → (rfc3339 true bytes ≡ Ok (w, rest)) ↔ ((rfc3339 false bytes ≡ Ok (w, rest)) × AreInRange w)
strict_is_in_range bytes w rest = narrows_iff AreInRange (rfc3339 true bytes) (rfc3339 false bytes) (rfc3339_narrows bytes) w rest

-- what a function returns that gives the strict reading
pub prefix_in_range : (is_strict : Bool) (result : Result (Rfc3339Parts × Bor (List ℕ)) ParseFromDescription) (bytes : List ℕ) → Gives (λ x. (x.0, x.1.now)) reading_fault result (rfc3339 is_strict bytes) → is_strict ≡ true → IfOk result (λ x. AreInRange x.0)
prefix_in_range true result bytes given e = strict_passes AreInRange (λ w. w) result (rfc3339 true bytes) (rfc3339 false bytes) given (rfc3339_narrows bytes)
prefix_in_range false result bytes given e = absurd cc
