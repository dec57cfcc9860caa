use Rattle.std.proofs.Common.{subst, List, ℕ, take, arith}
use Rattle.std.proofs.lemmas.List.{take_rest}
use Rattle.instants_stream.specs.Lines.{HasNoLineFeed}
use Rattle.instants_stream.proofs.Searched.{free_more}
use Rattle.instants_stream.proofs.search.line_len.Goals as goal

pub returns-in-Some-clause-before : goal.returns-in-Some-clause-before
returns-in-Some-clause-before c =
    free_more c.args.bytes.now c.loop-at.at c.in-Some.len c.loop-at.invariant.1
    (subst (λ (l : List ℕ). HasNoLineFeed (take c.in-Some.len l)) (take_rest c.args.bytes.now c.loop-at.at) c.in-Some.ensures.before)

pub loop-at-preserved : goal.loop-at-preserved
loop-at-preserved c = (
  omega arith,
  free_more c.args.bytes.now c.loop-at.at 48 c.loop-at.invariant.1
      (subst (λ (l : List ℕ). HasNoLineFeed (take 48 l)) (take_rest c.args.bytes.now c.loop-at.at) c.in_default.ensures.none),
)
