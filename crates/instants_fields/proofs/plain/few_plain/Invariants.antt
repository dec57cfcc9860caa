use Rattle.instants_fields.proofs.PlainRuns.{BeginPlain}
use Rattle.instants_fields.proofs.plain.few_plain.Given as goal

abbrev pub invariant-loop-index : goal.invariant-loop-index
invariant-loop-index l = BeginPlain l.index l.text
