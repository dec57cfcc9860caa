-- The moments at which a clock shows a reading: as a list, and as an answer.
use Rattle.std.specs.Prelude.{◌++◌, ℤ, ◌<ℤ◌, ◌≤ℤ◌, ◌-ℤ◌, int_le, int_lt, List, [], ◌∷◌}
use Rattle.std.specs.List.{filter}
use Rattle.zones_clock.specs.declared.zone.Step.{Step}
use Rattle.zones_clock.specs.Clock.{with_moment}
use Rattle.zones_clock.specs.declared.zone.Moments.{Moments}
use Rattle.zones_clock.specs.declared.zone.Moments.TheVariants.{Skipped}

-- the moments at which a clock shows a reading, in order: before the first step by the offset until then, and from it on as the steps after it say
unfoldable pub all_moments : ℤ → List Step → ℤ → List ℤ
all_moments offset [] reading = (reading -ℤ offset) ∷ []
all_moments offset (step ∷ steps) reading = filter (λ m. int_lt m step.from) ((reading -ℤ offset) ∷ []) ++ filter (λ m. int_le step.from m) (all_moments step.offset steps reading)

-- what was found, with later moments added one after another
abbrev pub with_moments : Moments → List ℤ → Moments
with_moments found [] = found
with_moments found (m ∷ later) = with_moments (with_moment found m) later

-- the answer to a reading: none, the only one, both, or the first three of several
unfoldable pub moments_of : ℤ → List Step → ℤ → Moments
moments_of first steps reading = with_moments Skipped (all_moments first steps reading)

-- the list has just the moments of which something is true, in order: its first is the earliest, and the rest has those after it
abbrev pub ListsInOrder : (ℤ → Type 0) → List ℤ → Type 0
ListsInOrder IsTrueOf [] = (moment : ℤ) → IsTrueOf moment → ⊥
ListsInOrder IsTrueOf (m ∷ more) = IsTrueOf m × ((moment : ℤ) → IsTrueOf moment → m ≤ℤ moment) × ListsInOrder (λ moment. IsTrueOf moment × (m <ℤ moment)) more
