-- The transitions of a rule in all years, and the clock that they give.
use Rattle.std.specs.Prelude.{◌≡◌, ℕ, zero, suc, ◌+◌, ◌≤◌, Bool, IsTrue, true, false, ◌&&◌, ◌||◌, int_lt, int_le, ℤ, ◌<ℤ◌, ◌≤ℤ◌, if◌then◌else◌, List, [], ◌∷◌, length, map, Option, Some, None}
use Rattle.zones_clock.specs.declared.zone.Step.{Step}
use Rattle.zones_clock.specs.Steps.{offset_at, step_at}
use Rattle.zones_rule.specs.declared.rule.Summer.{Summer}
use Rattle.zones_rule.specs.declared.rule.Rule.{Rule}
use Rattle.zones_rule.specs.declared.rule.Names.{Names}
use Rattle.zones_rule.specs.declared.years.Transition.{Transition}
use Rattle.zones_rule.specs.Years.{start_in, end_in, first_in, second_in}

-- those of so many years from one on, year after year
unfoldable pub years_from : ℤ → Summer → ℕ → ℕ → List Transition
years_from standard summer year zero = []
years_from standard summer year (suc count) = (first_in standard summer year) ∷ (second_in standard summer year) ∷ years_from standard summer (year + 1) count

-- those of the years 1 to 9999
abbrev pub all_years : ℤ → Summer → List Transition
all_years standard summer = years_from standard summer 1 9_999

-- those that come after a moment
unfoldable pub after : ℤ → List Transition → List Transition
after moment [] = []
after moment (transition ∷ rest) = if int_lt moment transition.at then transition ∷ rest else after moment rest

-- without those that are overtaken: that another at the same or an earlier instant follows
unfoldable pub without_overtaken : List Transition → List Transition
without_overtaken [] = []
without_overtaken (one ∷ []) = one ∷ []
without_overtaken (one ∷ (next ∷ rest)) = if int_lt one.at next.at then one ∷ without_overtaken (next ∷ rest) else without_overtaken (next ∷ rest)

-- whether it is summer time at a moment: as before, until the first transition, and from then on as that one says, until the next
unfoldable pub is_summer_by : Bool → List Transition → ℤ → Bool
is_summer_by before [] moment = before
is_summer_by before (transition ∷ rest) moment = if int_lt moment transition.at then before else is_summer_by transition.is_summer rest moment

abbrev pub offset_when : ℤ → Summer → Bool → ℤ
offset_when standard summer is_summer = if is_summer then summer.offset else standard

-- how far the clock is ahead of UTC at a moment by a rule
abbrev pub offset_by : ℤ → Option Summer → ℤ → ℤ
offset_by standard None moment = standard
offset_by standard (Some summer) moment = offset_when standard summer (is_summer_by false (all_years standard summer) moment)

abbrev pub offset_by_rule : Rule → ℤ → ℤ
offset_by_rule rule moment = offset_by rule.standard rule.summer moment

-- a transition as a step of a zone's clock
abbrev pub step_of : ℤ → Summer → Names → Transition → Step
step_of standard summer names transition = record {
  from = transition.at;
  offset = offset_when standard summer transition.is_summer;
  name = if transition.is_summer then names.summer else names.standard;
}

-- the steps that a rule gives after a moment
abbrev pub steps_by : ℤ → Option Summer → Names → ℤ → List Step
steps_by standard None names moment = []
steps_by standard (Some summer) names moment = map (step_of standard summer names) (without_overtaken (after moment (all_years standard summer)))

abbrev pub steps_after : Rule → Names → ℤ → List Step
steps_after rule names moment = steps_by rule.standard rule.summer names moment

-- the last of the steps, if there is one, has begun at a moment
abbrev pub LastHasBegun : List Step → ℤ → Type 0
LastHasBegun steps moment = (i : ℕ) → i + 1 ≡ length steps → (step_at steps i).from ≤ℤ moment

-- the transitions of none of the first so many years come after those of the year after it
unfoldable pub years_in_order : ℤ → Summer → ℕ → Bool
years_in_order standard summer zero = true
years_in_order standard summer (suc count) = years_in_order standard summer count && int_le (second_in standard summer (count + 1)).at (first_in standard summer (count + 1 + 1)).at

abbrev pub is_in_order : ℤ → Option Summer → Bool
is_in_order standard None = true
is_in_order standard (Some summer) = years_in_order standard summer 9_999

abbrev pub AreYearsInOrder : Rule → Type 0
AreYearsInOrder rule = IsTrue (is_in_order rule.standard rule.summer)

-- a moment is of a year: that year's first transition has come, and the next year's has not
pub record IsOfYear (standard : ℤ) (summer : Summer) (year : ℕ) (moment : ℤ) : Type 0 where
  pub some : 1 ≤ year
  pub last : year ≤ 9_999
  pub begun : (first_in standard summer year).at ≤ℤ moment
  pub next : moment <ℤ (first_in standard summer (year + 1)).at

-- summer time is from a year's start until its end; or where the end comes first, until the end and from the start on
abbrev pub is_between : Bool → ℤ → ℤ → ℤ → Bool
is_between true start end moment = int_le start moment && int_lt moment end
is_between false start end moment = int_lt moment end || int_le start moment

abbrev pub is_summer_in : ℤ → Summer → ℕ → ℤ → Bool
is_summer_in standard summer year moment =
    is_between (int_le (start_in standard summer year).at (end_in standard summer year).at) (start_in standard summer year).at (end_in standard summer year).at moment

-- before the year 10000 a moment is of a year, and the clock is as the rule says of that year
abbrev pub FollowsYears : ℤ → Option Summer → ℤ → ℤ → Type 0
FollowsYears standard None moment offset = offset ≡ standard
FollowsYears standard (Some summer) moment offset =
    (first_in standard summer 1).at ≤ℤ moment → moment <ℤ (first_in standard summer 10_000).at →
    (year : ℕ) × (IsOfYear standard summer year moment × (offset ≡ offset_when standard summer (is_summer_in standard summer year moment)))

abbrev pub FollowsRule : Rule → ℤ → ℤ → Type 0
FollowsRule rule moment offset = FollowsYears rule.standard rule.summer moment offset

-- from a moment on it is so
abbrev pub FollowsFrom : Rule → ℤ → ℤ → List Step → Type 0
FollowsFrom rule from first steps = (moment : ℤ) → from ≤ℤ moment → FollowsRule rule moment (offset_at first steps moment)
