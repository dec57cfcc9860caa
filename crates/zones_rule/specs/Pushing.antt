-- Steps that are added to a zone's one after the other, each once it is known not to be overtaken.
use Rattle.std.specs.Prelude.{◌≡◌, ℤ, ◌≤ℤ◌, List, ◌∷◌, ◌++◌, map, Option, Some, None}
use Rattle.zones_clock.specs.declared.zone.Step.{Step}
use Rattle.zones_clock.specs.Steps.{ComesAfter}
use Rattle.zones_rule.specs.declared.years.Transition.{Transition}
use Rattle.zones_rule.specs.declared.years.Clock.{Clock}
use Rattle.zones_rule.specs.declared.rule.Names.{Names}
use Rattle.zones_rule.specs.Transitions.{after, without_overtaken, step_of, LastHasBegun}

-- the transitions that come after a moment, where one may be put off already
abbrev pub left : ℤ → Option Transition → List Transition → List Transition
left moment None rest = after moment rest
left moment (Some pending) rest = pending ∷ rest

abbrev pub steps_left : Clock → Names → ℤ → Option Transition → List Transition → List Step
steps_left clock names moment pending rest = map (step_of clock.standard clock.summer names) (without_overtaken (left moment pending rest))

-- with these steps and this one put off all will be there in the end that will be with those
abbrev pub LosesNothing : Clock → Names → ℤ → List Step → Option Transition → List Step → Option Transition → Transition → Type 0
LosesNothing clock names moment new kept old pending next = (rest : List Transition) → new ++ steps_left clock names moment kept rest ≡ old ++ steps_left clock names moment pending (next ∷ rest)

-- what is put off comes after the steps, and not after an instant
abbrev pub IsReady : List Step → ℤ → Option Transition → ℤ → Type 0
IsReady steps moment None until = LastHasBegun steps moment
IsReady steps moment (Some pending) until = ComesAfter steps pending.at × (pending.at ≤ℤ until)
