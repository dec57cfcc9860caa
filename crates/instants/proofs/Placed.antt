-- A place is shown at the target, and what the difference of two moments at one offset leads to.
use Rattle.std.proofs.Common.{◌≡◌, ℕ, List, Option, None, Some, Result, Ok, Err, Bool, true, false, refl, sym, ◌∙◌, ap, ap₂, ℤ, pos, ◌+ℤ◌, ◌-ℤ◌, ◌*ℤ◌, arith}
use Rattle.std.specs.Prelude.{if◌then◌else◌, IsSome, IfSome, ◌≤ℤ◌}
use Rattle.std.specs.Int.Signed.{le_z_yes}
use Rattle.calendar_count.proofs.lemmas.Signed.{signed}
use Rattle.datetime_wall.specs.Wall.{Shown, second_nanos, instant, shown_at, first_wall_clock, last_wall_clock, IsWallClock}
use Rattle.calendar.specs.Duration.{least_duration, greatest_duration, IsDuration}
use Rattle.parsing_combinator.specs.Fault.{Fault}
use Rattle.instants_answers.specs.Text.{has_written_year, moment_text}
use Rattle.instants_answers.proofs.Placed.{shown_at-is}
use Rattle.instants_faults.specs.Refusal.{Refusal, year}
use Rattle.instants_timeline.specs.Place.{Setting, in_written_years, first_named, shown_or_refused, place_of, place_text, answer_to}

-- at one offset instants are as far apart as wall clocks
instants_apart : (a b : Shown) → a.offset ≡ b.offset → instant a -ℤ instant b ≡ a.wall -ℤ b.wall
instants_apart a b e =
    let apart : (x y o : ℤ) → (x -ℤ o *ℤ pos second_nanos) -ℤ (y -ℤ o *ℤ pos second_nanos) ≡ x -ℤ y = λ x y o. omega (arith, signed) in
    ap (λ o. (a.wall -ℤ o *ℤ pos second_nanos) -ℤ instant b) e ∙ apart a.wall b.wall b.offset

-- so that leads from one wall clock to the other
pub moved_by_difference : (a b : Shown) → a.offset ≡ b.offset → b.wall +ℤ (instant a -ℤ instant b) ≡ a.wall
moved_by_difference a b e = omega (arith, signed, instants_apart a b e)

made : ℤ → ℤ → Shown
made wall offset = record { wall = wall; offset = offset }

-- what was added leads to the other moment
pub sum_is : (o : Option Shown) (a b : Shown) (d : ℤ) → IsSome o → IfSome o (λ m. m ≡ record { wall = b.wall +ℤ d; offset = b.offset })
    → b.wall +ℤ d ≡ a.wall → a.offset ≡ b.offset → o ≡ Some a
unfolding made
sum_is None a b d some is wall offset = let never : false ≡ true = some in absurd cc
sum_is (Some m) a b d some is wall offset = ap (λ (x : Shown). Some x) (is ∙ ap₂ made wall (sym offset))

-- what leads to a place has its line
pub has_line : (setting : Setting) (line : List ℕ) (a : Shown) (o : Option Shown) → place_of setting line ≡ Ok a → o ≡ Some a
    → IfSome o (λ m. moment_text m ≡ answer_to setting line)
unfolding answer_to
has_line setting line a o h e = rw e (sym (ap place_text h))

-- of two numbers between two others the difference is between theirs
between : (low high x y : ℤ) → low ≤ℤ x → x ≤ℤ high → low ≤ℤ y → y ≤ℤ high → ((low -ℤ high) ≤ℤ (x -ℤ y)) × ((x -ℤ y) ≤ℤ (high -ℤ low))
between low high x y a b c d = (omega (arith, signed), omega (arith, signed))

≤ℤ-trans : (a b c : ℤ) → a ≤ℤ b → b ≤ℤ c → a ≤ℤ c
≤ℤ-trans a b c one other = omega (arith, signed)

-- wall clocks are a duration apart
walls_apart : (a b : ℤ) → IsWallClock a → IsWallClock b → IsDuration (a -ℤ b)
walls_apart a b of_a of_b =
    let apart = between first_wall_clock last_wall_clock a b of_a.0 of_a.1 of_b.0 of_b.1 in
    let low : least_duration ≤ℤ (first_wall_clock -ℤ last_wall_clock) = le_z_yes tt in
    let high : (last_wall_clock -ℤ first_wall_clock) ≤ℤ greatest_duration = le_z_yes tt in
    (≤ℤ-trans _ _ _ low apart.0, ≤ℤ-trans _ _ _ apart.1 high)

-- the instants of moments at one offset are a duration apart
pub difference_is_duration : (a b : Shown) → a.offset ≡ b.offset → IsWallClock a.wall → IsWallClock b.wall → IsDuration (instant a -ℤ instant b)
difference_is_duration a b e of_a of_b = rw (instants_apart a b e) (walls_apart a.wall b.wall of_a of_b)
