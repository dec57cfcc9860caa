use Rattle.std.proofs.Common.{Some, None, ◌∙◌, arith}
use Rattle.instants_found.proofs.Longest.{one_more}
use Rattle.instants_found.proofs.finding.with_others.Goals.{in-Some, in_default}
use Rattle.instants_found.proofs.finding.with_others.Goals as goal

pub loop-number-preserved : goal.loop-number-preserved
loop-number-preserved c =
    let one = one_more c.args.given.now c.args.line.now c.args.start c.args.sources.now c.loop-number.number c.index-sources-number.result (Some c.loop-number.longest) in
    elim c.match-read_candidate.branch [
      | in-Some w ↦ rw w.longest-is (w.longer-longest.ensures ∙ one (Some w.in-Some.other) (omega arith) c.index-sources-number.is c.loop-number.invariant w.in-Some.ensures.is)
      | in_default w ↦ rw w.longest-is (one None (omega arith) c.index-sources-number.is c.loop-number.invariant w.in_default.ensures.is)
    ]
