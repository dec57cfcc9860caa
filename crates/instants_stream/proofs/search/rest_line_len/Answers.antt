use Rattle.std.proofs.Common.{subst, List, ℕ, take, arith}
use Rattle.std.proofs.lemmas.List.{take_rest}
use Rattle.instants_stream.specs.Lines.{HasNoLineFeed}
use Rattle.instants_stream.proofs.Searched.{free_more, free_whole}
use Rattle.instants_stream.proofs.search.rest_line_len.Goals as goal

pub returns-in-Some-clause-before : goal.returns-in-Some-clause-before
returns-in-Some-clause-before c =
    free_more c.args.bytes.now c.loop-at.at c.in-Some.len c.loop-at.invariant.1
    (subst (λ (l : List ℕ). HasNoLineFeed (take c.in-Some.len l)) (take_rest c.args.bytes.now c.loop-at.at) c.in-Some.ensures.before)

pub loop-at-preserved : goal.loop-at-preserved
loop-at-preserved c = (
  omega arith,
  free_more c.args.bytes.now c.loop-at.at 16 c.loop-at.invariant.1
      (subst (λ (l : List ℕ). HasNoLineFeed (take 16 l)) (take_rest c.args.bytes.now c.loop-at.at) c.in_default.ensures.none),
)

pub returns-in_default-first_line_feed-clause-none : goal.returns-in_default-first_line_feed-clause-none
returns-in_default-first_line_feed-clause-none c =
    free_whole c.args.bytes.now c.loop-at.at c.loop-at.invariant.1 (subst HasNoLineFeed (take_rest c.args.bytes.now c.loop-at.at) c.in_default-first_line_feed.ensures.none)

pub returns-clause-before : goal.returns-clause-before
returns-clause-before c =
    free_more c.args.bytes.now c.loop-at.at c.in-Some-first_line_feed.len c.loop-at.invariant.1
    (subst (λ (l : List ℕ). HasNoLineFeed (take c.in-Some-first_line_feed.len l)) (take_rest c.args.bytes.now c.loop-at.at) c.in-Some-first_line_feed.ensures.before)
