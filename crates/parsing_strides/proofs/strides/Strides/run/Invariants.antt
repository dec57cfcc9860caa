use Rattle.std.proofs.Common.{drop}
use Rattle.parsing_strides.proofs.StepLemmas.{SoFar}
use Rattle.parsing_strides.proofs.strides.Strides.run.Given as goal

abbrev pub invariant-loop-step : goal.invariant-loop-step
invariant-loop-step l = SoFar l.steps (drop l.step-index l.steps) l.line l.rest l.fn.found l.found
