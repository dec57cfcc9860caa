-- What a clock shows, and the moments that a reading names.
use Rattle.std.specs.Prelude.{◌≡◌, ℤ, ◌<ℤ◌, ◌+ℤ◌, List, ◌⊎◌}
use Rattle.zones_clock.specs.declared.zone.Step.{Step}
use Rattle.zones_clock.specs.declared.zone.Moments.{Moments}
use Rattle.zones_clock.specs.declared.zone.Moments.TheVariants.{Skipped, One, Repeated, Several}
use Rattle.zones_clock.specs.Steps.{offset_at}

-- at this moment the clock shows this reading
pub record Shows (first : ℤ) (steps : List Step) (reading moment : ℤ) : Type 0 where
  pub shown : moment +ℤ offset_at first steps moment ≡ reading

-- the answer to a reading: the only moment at which the clock shows it, that there is none, the only two, or three of several
abbrev pub AreTheMoments : ℤ → List Step → ℤ → Moments → Type 0
AreTheMoments first steps reading Skipped = (moment : ℤ) → Shows first steps reading moment → ⊥
AreTheMoments first steps reading (One m) = Shows first steps reading m × ((moment : ℤ) → Shows first steps reading moment → moment ≡ m)
AreTheMoments first steps reading (Repeated m n) = (Shows first steps reading m × Shows first steps reading n × (m <ℤ n)) × ((moment : ℤ) → Shows first steps reading moment → (moment ≡ m) ⊎ (moment ≡ n))
AreTheMoments first steps reading (Several m n o) = Shows first steps reading m × Shows first steps reading n × Shows first steps reading o × (m <ℤ n) × (n <ℤ o)

-- with a later moment added
abbrev pub with_moment : Moments → ℤ → Moments
with_moment Skipped moment = One moment
with_moment (One m) moment = Repeated m moment
with_moment (Repeated m n) moment = Several m n moment
with_moment (Several m n o) moment = Several m n o
