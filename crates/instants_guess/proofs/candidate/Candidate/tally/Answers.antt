use Rattle.std.proofs.Common.{◌≡◌, length, arith, rules}
use Rattle.instants_guess.specs.Tallies.{is_dated, is_doubtful, is_unwritten}
use Rattle.instants_guess.proofs.Counting.{counted, counted_all}
use Rattle.instants_guess.proofs.candidate.Candidate.tally.Goals as goal

pub loop-rest-preserved : goal.loop-rest-preserved
loop-rest-preserved c =
    let i = c.loop-rest.invariant in
    let n = c.counted-tally.ensures in
    let before = c.loop-rest.tally in
    let after = c.counted-tally.result in
    let first = c.first_line in
    record {
      dated = counted is_dated c.args.self.now _ before.dated c.loop-rest.rest.now i.dated after.dated first.result.0.now first.result.1.now c.find-finding.result first.ensures.lines c.find-finding.ensures n.dated;
      doubtful = counted is_doubtful c.args.self.now _ before.doubtful c.loop-rest.rest.now i.doubtful after.doubtful first.result.0.now first.result.1.now c.find-finding.result first.ensures.lines c.find-finding.ensures n.doubtful;
      unwritten = counted is_unwritten c.args.self.now _ before.unwritten c.loop-rest.rest.now i.unwritten after.unwritten first.result.0.now first.result.1.now c.find-finding.result first.ensures.lines c.find-finding.ensures n.unwritten;
      few = omega (arith, n.one, i.few, first.ensures.some);
    }

pub returns-clause-dated : goal.returns-clause-dated
returns-clause-dated c = let none : length c.loop-rest.rest.now ≡ 0 = search rules in counted_all is_dated c.args.self.now _ _ c.loop-rest.rest.now c.loop-rest.invariant.dated none

pub returns-clause-doubtful : goal.returns-clause-doubtful
returns-clause-doubtful c = let none : length c.loop-rest.rest.now ≡ 0 = search rules in counted_all is_doubtful c.args.self.now _ _ c.loop-rest.rest.now c.loop-rest.invariant.doubtful none

pub returns-clause-unwritten : goal.returns-clause-unwritten
returns-clause-unwritten c = let none : length c.loop-rest.rest.now ≡ 0 = search rules in counted_all is_unwritten c.args.self.now _ _ c.loop-rest.rest.now c.loop-rest.invariant.unwritten none
