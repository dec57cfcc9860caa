use Rattle.std.proofs.Common.{subst}
use Rattle.instants_stream.specs.Ran.{Ran}
use Rattle.instants_stream.proofs.EachAnswered.{same_writing}
use Rattle.instants_stream.proofs.answered.run_lines.Goals as goal

pub returns-clause-ran : goal.returns-clause-ran
returns-clause-ran g c =
    subst (λ writing. Ran writing g.R.ByteReader c.args.reader.now c.write_lines.new.reader g.W.ByteWriter c.args.writer.now c.write_lines.new.writer c.write_lines.result)
    (same_writing (g.A.AnswersLines.answer c.args.answers.now) c.args.limit) (rw c.new.ensures at c.write_lines.ensures.ran)
