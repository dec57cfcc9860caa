-- A date on the clock of a zone lies where the date that was read lies.
use Rattle.std.proofs.Common.{◌≡◌, inl, inr, ap, ◌∙◌, ◌-ℤ◌, ◌+ℤ◌, ◌*ℤ◌, pos, ◌+◌, ◌*◌, ◌<◌, ◌≤◌, Bool, true, false, ℤ, ℕ, List, Option, Some, None, Ok, refl, sym, arith}
use Rattle.std.specs.Prelude.{nat_lt, unsigned_abs}
use Rattle.std.proofs.lemmas.Bool.Decides.{nat_tests}
use Rattle.std.proofs.lemmas.Int.{ints}
use Rattle.calendar_count.specs.Calendar.{day_at, ymd}
use Rattle.calendar_count.specs.Range.{last_count, unix_epoch}
use Rattle.datetime_wall.specs.Wall.{Shown, second_nanos, wall_clock}
use Rattle.datetime_types.proofs.UnixLemmas.{wall_parts}
use Rattle.parsing_values.specs.Moment.{moment_of, time_of_fields}
use Rattle.parsing_values.specs.declared.fields.Fields.{Fields}
use Rattle.parsing_values.proofs.lemmas.Moments.{moment_of_parts}
use Rattle.calendar.specs.UtcOffset.{offset_of_seconds}
use Rattle.zones_clock.specs.Steps.{IsOffset}
use Rattle.std.specs.Borrow.{Bor}
use Rattle.zones_clock.specs.declared.zone.Zone.{Zone}
use Rattle.zones_clock.specs.declared.zone.Moments.{Moments}
use Rattle.zones_clock.specs.declared.zone.Moments.TheVariants.{Skipped, One, Repeated, Several}
use Rattle.zones_clock.specs.AllMoments.{moments_of}
use Rattle.instants_prefixes.specs.DateSource.{IsWithin}
use Rattle.instants_prefixes.specs.declared.prefix.Prefix.{Prefix}
use Rattle.zones_clock.specs.Clock.{AreTheMoments}
use Rattle.zones_clock.proofs.MomentLemmas.{answer_is}
use Rattle.instants_found.specs.declared.zoned.Settled.{Settled}
use Rattle.instants_found.specs.Zoned.{EachIsAtTheMoment, IsTheMoment, ShowsAt, at_offset, by_moments, chosen, is_said, reading, settled_by}

module _ (P : Prefix → Type 0) (prefix : Prefix) (moves : (offset : ℤ) → P (at_offset prefix offset)) (stays : P prefix) where
  chosen_moves : (first second : ℤ) (one other : Bool) → P (chosen prefix first second one other).prefix
  chosen_moves first second true true = stays
  chosen_moves first second true false = moves _
  chosen_moves first second false true = moves _
  chosen_moves first second false false = stays

  moments_move : (zone : Zone) (line : List ℕ) (start : ℕ) (moments : Moments) → P (by_moments zone line start prefix moments).prefix
  moments_move zone line start (One moment) = moves _
  moments_move zone line start (Repeated first second) = chosen_moves first second _ _
  moments_move zone line start Skipped = stays
  moments_move zone line start (Several first second third) = stays

  -- what holds of a prefix at any offset holds of it on the clock of a zone
  pub settled_moves : (zone : Option (Bor Zone)) (offset : Option ℤ) (takes : Bool) (line : List ℕ) (start : ℕ) → P (settled_by zone offset takes line start prefix).prefix
  settled_moves (Some zone) offset true line start = moments_move zone.now line start _
  settled_moves (Some zone) offset false line start = stays
  settled_moves None offset takes line start = stays

pub settled_within : (bytes : List ℕ) (zone : Option (Bor Zone)) (offset : Option ℤ) (takes : Bool) (line : List ℕ) (start : ℕ) (prefix : Prefix) → IsWithin bytes prefix → IsWithin bytes (settled_by zone offset takes line start prefix).prefix
settled_within bytes zone offset takes line start prefix within =
    settled_moves (IsWithin bytes) prefix (λ offset. record { begins = within.begins; ends = within.ends; zone = within.zone; all = within.all }) within zone offset takes line start

-- an offset of a zone's clock is one of the calendar
pub of_zone : (offset : ℤ) → IsOffset offset → offset_of_seconds offset ≡ Ok offset
unfolding offset_of_seconds
of_zone offset is =
    let small : nat_lt 93_599 (unsigned_abs offset) ≡ false = grind (arith, nat_tests) in
    rw small refl

-- ---- by the moments; numbers may have gone through a call

shown_by : (zone : Zone) (prefix : Prefix) (passed : ℤ) (found moments : Moments) → passed ≡ reading prefix.moment → AreTheMoments zone.first zone.steps.items passed found → found ≡ moments → AreTheMoments zone.first zone.steps.items (reading prefix.moment) moments
shown_by zone prefix passed found moments p f is = rw (← p, ← is) f

pub one_shown : (zone : Zone) (prefix : Prefix) (passed m : ℤ) (found : Moments) → passed ≡ reading prefix.moment → AreTheMoments zone.first zone.steps.items passed found → found ≡ One m → ShowsAt zone prefix m
one_shown zone prefix passed m found p f is = (shown_by zone prefix passed found (One m) p f is).0

pub both_shown : (zone : Zone) (prefix : Prefix) (passed m n : ℤ) (found : Moments) → passed ≡ reading prefix.moment → AreTheMoments zone.first zone.steps.items passed found → found ≡ Repeated m n → ShowsAt zone prefix m × ShowsAt zone prefix n
both_shown zone prefix passed m n found p f is = let at = (shown_by zone prefix passed found (Repeated m n) p f is).0 in (at.0, at.1)

-- ---- the moment of a date

abbrev AtTheMoment : Zone → List ℕ → ℕ → Prefix → Settled → Type 0
AtTheMoment zone line start prefix date = (moment : ℤ) × (date.prefix ≡ at_offset prefix (reading prefix.moment -ℤ moment)) × IsTheMoment zone line start prefix moment

chosen_moment : (zone : Zone) (line : List ℕ) (start : ℕ) (prefix : Prefix) (m n : ℤ) (one other : Bool) → is_said zone line start (start + prefix.ends) m ≡ one → is_said zone line start (start + prefix.ends) n ≡ other
    → AreTheMoments zone.first zone.steps.items (reading prefix.moment) (Repeated m n) → (chosen prefix m n one other).doubt ≡ None → AtTheMoment zone line start prefix (chosen prefix m n one other)
chosen_moment zone line start prefix m n true false e f h none =
    (m, refl, record { shown = h.0.0; others = λ t s. elim (h.1 t s) [ inl same ↦ inl same | inr same ↦ inr (ap (is_said zone line start (start + prefix.ends)) same ∙ f) ] })
chosen_moment zone line start prefix m n false true e f h none =
    (n, refl, record { shown = h.0.1; others = λ t s. elim (h.1 t s) [ inl same ↦ inr (ap (is_said zone line start (start + prefix.ends)) same ∙ e) | inr same ↦ inl same ] })
chosen_moment zone line start prefix m n true true e f h none = absurd cc
chosen_moment zone line start prefix m n false false e f h none = absurd cc

the_moment : (zone : Zone) (line : List ℕ) (start : ℕ) (prefix : Prefix) (moments : Moments) → AreTheMoments zone.first zone.steps.items (reading prefix.moment) moments
    → (by_moments zone line start prefix moments).doubt ≡ None → AtTheMoment zone line start prefix (by_moments zone line start prefix moments)
the_moment zone line start prefix Skipped h none = absurd cc
the_moment zone line start prefix (One m) h none = (m, refl, record { shown = h.0; others = λ t s. inl (h.1 t s) })
the_moment zone line start prefix (Repeated m n) h none = chosen_moment zone line start prefix m n _ _ refl refl h none
the_moment zone line start prefix (Several m n o) h none = absurd cc

pub each_at_the_moment : EachIsAtTheMoment
each_at_the_moment zone line start prefix none = the_moment zone line start prefix _ (answer_is zone.first zone.steps.items (reading prefix.moment)) none

-- ---- what the clock of fields shows

pub reading_is : (f : Fields) (day : ℕ) → day ≤ last_count → day_at day ≡ ymd (pos f.year) f.month f.day → f.fraction < second_nanos
    → reading (moment_of f) ≡ ((pos day -ℤ pos unix_epoch) *ℤ pos 86_400) +ℤ pos (f.minute * 60 + f.second)
unfolding wall_clock
reading_is f day within is small =
    let parts = moment_of_parts f day (time_of_fields f) (pos 60 *ℤ f.offset) within is refl refl in
    let wall : (moment_of f).wall ≡ wall_clock day (time_of_fields f) = ap (λ (m : Shown). m.wall) (sym parts) in
    let q = wall_parts (wall_clock day (time_of_fields f)) in
    rw wall (omega (arith, ints, q, small))
