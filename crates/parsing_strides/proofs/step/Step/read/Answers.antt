use Rattle.std.proofs.Common.{sym}
use Rattle.std.proofs.lemmas.Option.{IfSome_then}
use Rattle.parsing_combinator.proofs.lemmas.Tame.{joined}
use Rattle.parsing_layout.specs.Layout.{piece_of}
use Rattle.parsing_strides.proofs.EndLemmas.{later_end, left_by, part_leaves}
use Rattle.parsing_strides.proofs.StepLemmas.{optional_missing, optional_there, part_said, stride_found}
use Rattle.parsing_strides.proofs.step.Step.read.Goals as goal

pub returns-in-Part-clause-says : goal.returns-in-Part-clause-says
returns-in-Part-clause-says c = λ items fits. IfSome_then c.read_part.result c.read_part.ensures.says (λ after e. rw (rw c.in-Part.is at fits) (part_said c.in-Part.part c.args.rest.now after.now c.args.found.now c.read_part.new.found e c.read_part.ensures.kept))

pub returns-in-Part-clause-end : goal.returns-in-Part-clause-end
returns-in-Part-clause-end c = IfSome_then c.read_part.result c.read_part.ensures.says (λ after e. joined c.args.line.now c.args.rest.now after.now c.requires (left_by c.args.rest.now after.now _ (piece_of c.in-Part.part c.args.rest.now) (part_leaves c.in-Part.part c.args.rest.now) e))

pub returns-in-Stride-clause-says : goal.returns-in-Stride-clause-says
returns-in-Stride-clause-says c = λ items fits. stride_found c.in-Stride.stride items c.args.rest.now c.read.result c.args.found.now c.read.new.found (rw c.in-Stride.is at fits) c.read.ensures.says c.read.ensures.kept

pub returns-in-Some-clause-says : goal.returns-in-Some-clause-says
returns-in-Some-clause-says c = λ items fits. IfSome_then c.read_part-in-Some.result c.read_part-in-Some.ensures.says (λ after e. rw (rw c.in-Optional.is at fits) (optional_there c.in-Optional.byte c.in-Optional.part c.args.rest.now c.in-Some.after.now after.now c.args.found.now c.read_part-in-Some.new.found (sym c.in-Some.ensures) e c.read_part-in-Some.ensures.kept))

pub returns-in-Some-clause-end : goal.returns-in-Some-clause-end
returns-in-Some-clause-end c = IfSome_then c.read_part-in-Some.result c.read_part-in-Some.ensures.says (λ after e. later_end c.in-Optional.byte c.in-Optional.part c.args.line.now c.args.rest.now c.in-Some.after.now after.now _ c.requires (sym c.in-Some.ensures) e)

pub returns-in-None-clause-says : goal.returns-in-None-clause-says
returns-in-None-clause-says c = λ items fits. rw (rw c.in-Optional.is at fits) (optional_missing c.in-Optional.byte c.in-Optional.part c.args.rest.now c.args.found.now (sym c.in-None.ensures))
