-- Plans of descriptions.
use Rattle.parsing_plan.specs.Plan.{IsPlanOf}
use Rattle.parsing_plan.specs.declared.plan.Plan.{Plan}
use Rattle.instants_sources.specs.Grammar.{Grammar, Described}
use Rattle.instants_sources.specs.Written.{reads_written}

-- a description reads as the plan says
abbrev pub IsPlanned : Grammar → Plan → Type 0
IsPlanned (Described written) plan = IsPlanOf (reads_written written) plan
IsPlanned _ plan = ⊥
