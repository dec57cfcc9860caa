-- What the search for moments goes by, part after part: only clauses of private functions cite these.
use Rattle.std.specs.Prelude.{ℕ, zero, suc, ◌<◌, nat_lt, Bool, true, ◌&&◌, not, ℤ, ◌<ℤ◌, ◌≤ℤ◌, int_le, ◌-ℤ◌, length, List, [], ◌∷◌}
use Rattle.std.specs.List.{filter}
use Rattle.zones_clock.specs.declared.zone.Step.{Step}
use Rattle.zones_clock.specs.Steps.{offset_after, step_at}

-- so many steps have begun at a moment
abbrev pub AllBegun : List Step → ℕ → ℤ → Type 0
AllBegun steps count moment = (i : ℕ) → i < count → (step_at steps i).from ≤ℤ moment

-- so many steps have begun at a moment, and the next has not
abbrev pub IsIn : List Step → ℕ → ℤ → Type 0
IsIn steps count moment = AllBegun steps count moment × (count < length steps → moment <ℤ (step_at steps count).from)

-- the last of so many steps, if there is one, has begun at a moment
abbrev pub have_begun : List Step → ℕ → ℤ → Bool
have_begun steps zero moment = true
have_begun steps (suc count) moment = int_le (step_at steps count).from moment

-- there is a step after so many, and it has begun at a moment
abbrev pub has_next_begun : List Step → ℕ → ℤ → Bool
has_next_begun steps count moment = nat_lt count (length steps) && int_le (step_at steps count).from moment

-- the moment at which a clock with the offset after so many steps shows a reading, if it lies after them and before the next
abbrev pub moment_between : ℤ → List Step → ℤ → ℕ → List ℤ
moment_between first steps reading count = filter (λ m. have_begun steps count m && not (has_next_begun steps count m)) ((reading -ℤ offset_after first steps count) ∷ [])
