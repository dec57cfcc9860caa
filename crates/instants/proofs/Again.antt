-- A line names the moment that it was written of.
use Rattle.std.proofs.Common.{◌≡◌, ℕ, ◌/◌, ◌%◌, List, Option, None, Some, Ok, refl, sym, ap, ◌∙◌, arith, ℤ, unsigned_abs}
use Rattle.calendar_count.specs.Calendar.{day_at}
use Rattle.calendar_count.proofs.lemmas.Days.{day_valid}
use Rattle.calendar.specs.UtcOffset.{IsClockOffset}
use Rattle.datetime_wall.specs.Wall.{Shown, day_of, nanosecond_of, second_nanos}
use Rattle.datetime_wall.proofs.lemmas.WallClocks.{wall_clock_parts, nanosecond_of_bound, day_of_bound}
use Rattle.instants_answers.specs.Text.{offset_text, moment_text}
use Rattle.instants_answers.specs.Written.{IsWritten}
use Rattle.instants_answers.proofs.Lines.{day_fits, has_year}
use Rattle.instants_sources.specs.Grammar.{Rfc3339, Iso8601}
use Rattle.instants_sources.specs.Named.{defaults_of, named}
use Rattle.parsing_rfc3339.specs.Direct.{direct}
use Rattle.parsing_rfc3339.proofs.FastLemmas.{moment_read}
use Rattle.parsing_rfc3339.proofs.StrictLemmas.{strict_is_in_range}
use Rattle.parsing_parsable.specs.Staged.{reads_rfc3339}
use Rattle.parsing_parsable.specs.TwoRoads.{AgreeOn, HoldsAtMostAnOffset}
use Rattle.parsing_parsable.proofs.Rfc3339Roads.{agree}
use Rattle.parsing_parsable.proofs.Assumed.{one_road}
use Rattle.parsing.proofs.Assumed.{same_moment, two_formats}
use Rattle.instants.proofs.Pieces.{date_read, any_read, clock_read, subsecond_read, zone_named, offset_read, offset_ends}
use Rattle.instants.proofs.Values.{day_named, time_named, offset_named}
use Rattle.instants.proofs.Bytes.{after_second, after_date, line_parts, both, unrounded}

abbrev placed : ℤ → ℤ → Shown
placed wall offset = record { wall = wall; offset = offset }

-- without an assumed offset
directly_again : (m : Shown) → IsWritten m → IsClockOffset m.offset → direct (moment_text m) ≡ Ok m
directly_again m h o =
    let c = day_of m.wall in
    let n = nanosecond_of m.wall in
    let t = day_at c in
    let count = day_of_bound m.wall h.0 in
    let small = nanosecond_of_bound m.wall in
    let year = has_year m h.1 in
    let valid = day_valid c count in
    let s = n / second_nanos in
    let part = n % second_nanos in
    let after = after_second part m.offset in
    ap direct (line_parts m)
    ∙ moment_read _ (after_date n m.offset) _ after (offset_text m.offset) (unsigned_abs t.year, t.month, t.day) (s / 3600, s / 60 % 60, s % 60) part m.offset c n
    (date_read t (after_date n m.offset) (day_fits c count year) (omega (arith, valid)))
    (any_read _ _)
    (clock_read s after (omega arith))
    (Some part, subsecond_read part (offset_text m.offset) (omega arith) (offset_ends m.offset), refl)
    (zone_named m.offset, offset_read m.offset o, offset_named m.offset o)
    (day_named c count year)
    (time_named n small)
    ∙ ap (λ (wall : ℤ). Ok (placed wall m.offset)) (wall_clock_parts m.wall h.0)

-- both roads of RFC 3339 agree on every text
roads_agree : (bytes : List ℕ) → AgreeOn direct reads_rfc3339 bytes
roads_agree bytes = agree bytes (strict_is_in_range bytes)

pub rfc3339_again : (m : Shown) → IsWritten m → IsClockOffset m.offset → (assumed : Option ℤ) → named assumed Rfc3339 (moment_text m) ≡ Ok m
rfc3339_again m h o None = directly_again m h o
rfc3339_again m h o (Some assumed) = same_moment _ (direct (moment_text m)) m (sym (roads_agree (moment_text m) _ _)) (directly_again m h o)

at_most_an_offset : (assumed : Option ℤ) → HoldsAtMostAnOffset (defaults_of assumed)
at_most_an_offset None = tt
at_most_an_offset (Some offset) = refl

pub iso8601_again : (m : Shown) → IsWritten m → IsClockOffset m.offset → (assumed : Option ℤ) → named assumed Iso8601 (moment_text m) ≡ Ok m
iso8601_again m h o assumed =
    let bytes = moment_text m in
    (two_formats bytes (roads_agree bytes) (one_road bytes) (defaults_of assumed) (at_most_an_offset assumed) m (rfc3339_again m h o assumed)).named (both m)
    ∙ ap (λ (shown : Shown). Ok shown) (unrounded m m)
