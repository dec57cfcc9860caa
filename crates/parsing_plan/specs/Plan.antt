-- Plans, and the items that they stand for.
use Rattle.std.specs.Prelude.{◌≡◌, ℤ, Option}
use Rattle.parsing_components.specs.Meaning.{Meaning}
use Rattle.parsing_plan.specs.Places.{ArePlacesOf, AssumesMinutes, IsUnixTimeOf}
use Rattle.parsing_plan.specs.declared.places.Places.{Places}
use Rattle.parsing_plan.specs.declared.unix.UnixTime.{UnixTime}
use Rattle.parsing_item_parts.specs.Listed.{IsListOf, ListedAssumes}
use Rattle.parsing_item_parts.specs.declared.listed.Listed.{Listed}
use Rattle.parsing_plan.specs.declared.plan.Plan.{Plan}
use Rattle.parsing_plan.specs.declared.plan.Plan.TheVariants as plan
use Rattle.parsing_plan.specs.declared.plan.PlanAt.{PlanAt}
use Rattle.parsing_plan.specs.declared.plan.PlanAt.TheVariants as way

-- the items read as the plan says
abbrev pub IsPlanOf : Meaning → Plan → Type 0
IsPlanOf m p = ((places : Places) → p ≡ plan.Places places → ArePlacesOf m places) × ((unix : UnixTime) → p ≡ plan.Unix unix → IsUnixTimeOf m unix) × ((listed : Listed) → p ≡ plan.Listed listed → IsListOf m listed)

-- the plan of a way
abbrev pub plan_of : PlanAt → Plan
plan_of (way.Plain places) = plan.Places places.now
plan_of (way.Whole whole) = plan.Places whole.places.now
plan_of (way.Split split) = plan.Places split.places.now
plan_of (way.Unix unix) = plan.Unix unix.now
plan_of (way.Listed list) = plan.Listed list.listed.now
plan_of (way.Other other) = other.now

-- a way for which an offset counts that is assumed has that offset
abbrev pub HasAssumed : PlanAt → Option ℤ → Type 0
HasAssumed (way.Plain places) assumed = Unit {0}
HasAssumed (way.Whole whole) assumed = AssumesMinutes whole.places.now whole.minutes assumed
HasAssumed (way.Split split) assumed = AssumesMinutes split.places.now split.minutes assumed
HasAssumed (way.Unix unix) assumed = Unit {0}
HasAssumed (way.Listed list) assumed = ListedAssumes list assumed
HasAssumed (way.Other other) assumed = Unit {0}
