use Rattle.std.proofs.Common.{◌≡◌, ◌++◌, List, length, take}
use Rattle.parsing_strides.specs.Strides.{AreMade}
use Rattle.parsing_strides.specs.declared.step.Step.{Step}
use Rattle.parsing_strides.proofs.strides.Strides.of_items.Given as goal

-- with steps that were made for the items that are left, those so far were made for all
abbrev pub invariant-loop-count : goal.invariant-loop-count
invariant-loop-count l = (length l.steps ≡ 16) × ((later : List Step) → AreMade later l.rest → AreMade (take l.count l.steps ++ later) l.items)
