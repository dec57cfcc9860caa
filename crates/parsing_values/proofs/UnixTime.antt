-- The moment of a second of Unix time.
use Rattle.std.proofs.Common.{◌≡◌, ℕ, ◌+◌, ◌*◌, ◌≤◌, sym, ap, ◌∙◌, arith, pos, ℤ}
use Rattle.std.specs.Prelude.{◌+ℤ◌, ◌*ℤ◌}
use Rattle.std.specs.Int.{int_div_euclid, int_rem_euclid}
use Rattle.calendar_count.specs.Range.{last_count, unix_epoch}
use Rattle.calendar_count.specs.Calendar.{day_at, ymd}
use Rattle.calendar_count.proofs.lemmas.Signed.{signed}
use Rattle.datetime_wall.specs.Wall.{wall_clock, second_nanos}
use Rattle.parsing_values.specs.declared.fields.Fields.{Fields}
use Rattle.parsing_values.specs.Moment.{moment_of}
use Rattle.parsing_values.proofs.lemmas.Moments.{moment_of_parts}

wall_is : (count rest s fraction : ℕ) → pos count ≡ int_div_euclid (pos s) (pos 86_400) +ℤ pos unix_epoch → pos rest ≡ int_rem_euclid (pos s) (pos 86_400) → wall_clock count (rest * second_nanos + fraction) ≡ pos (s * second_nanos + fraction)
unfolding wall_clock
wall_is count rest s fraction c r = omega (arith, signed)

pub unix_moment : (f : Fields) (s fraction count rest : ℕ) → pos count ≡ int_div_euclid (pos s) (pos 86_400) +ℤ pos unix_epoch → pos rest ≡ int_rem_euclid (pos s) (pos 86_400) → count ≤ last_count → day_at count ≡ ymd (pos f.year) f.month f.day → f.minute * 60 + f.second ≡ rest → f.fraction ≡ fraction → f.offset ≡ pos 0 → moment_of f ≡ record { wall = pos (s * second_nanos + fraction); offset = pos 0 }
unix_moment f s fraction count rest in_count in_rest within is clock same offset =
    let time : rest * second_nanos + fraction ≡ (f.minute * 60 + f.second) * second_nanos + f.fraction = omega arith in
    let zero : pos 0 ≡ pos 60 *ℤ f.offset = omega (arith, signed, offset) in
    sym (moment_of_parts f count (rest * second_nanos + fraction) (pos 0) within is time zero) ∙ ap (λ (w : ℤ). record { wall = w; offset = pos 0 }) (wall_is count rest s fraction in_count in_rest)
