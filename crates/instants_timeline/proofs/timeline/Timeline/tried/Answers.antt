use Rattle.std.proofs.Common.{◌≡◌, arith}
use Rattle.std.specs.Prelude.{is_some, true, false}
use Rattle.std.specs.Result.{result_ok}
use Rattle.instants_sources.specs.Grammar.{grammar_of}
use Rattle.instants_sources.specs.Named.{named}
use Rattle.instants_timeline.proofs.Counted.{next_fits, tried_here, tried_later, tried_all}
use Rattle.instants_timeline.proofs.timeline.Timeline.tried.Goals as goal

pub overflow_add-tried : goal.overflow_add-tried
overflow_add-tried c =
    let timeline = c.args.self.now in
    let fits = next_fits timeline.assumed timeline.sources.items c.args.line.now c.loop-source.source-index c.loop-source.tried c.source-item.result (rw c.deref-source-items.ensures.value at c.loop-source-test.true) (rw c.deref-source-items.ensures.value at c.source-item.is) c.loop-source.invariant timeline.few in
    omega (arith, fits, c.tried-tried.ensures)

pub returns-then-is_some : goal.returns-then-is_some
returns-then-is_some c =
    let timeline = c.args.self.now in
    let item = c.source-item.result in
    let is : is_some (result_ok (named timeline.assumed (grammar_of item) c.args.line.now)) ≡ true = rw (← c.moment.ensures, ← c.is_some.ensures) c.if-is_some.true in
    let fits = next_fits timeline.assumed timeline.sources.items c.args.line.now c.loop-source.source-index c.loop-source.tried item (rw c.deref-source-items.ensures.value at c.loop-source-test.true) (rw c.deref-source-items.ensures.value at c.source-item.is) c.loop-source.invariant timeline.few in
    omega (arith, fits, c.tried-tried.ensures, tried_here timeline.assumed timeline.sources.items c.args.line.now c.loop-source.source-index c.loop-source.tried item (rw c.deref-source-items.ensures.value at c.loop-source-test.true) (rw c.deref-source-items.ensures.value at c.source-item.is) c.loop-source.invariant is)

pub loop-source-preserved : goal.loop-source-preserved
loop-source-preserved c =
    let timeline = c.args.self.now in
    let item = c.source-item.result in
    let is : is_some (result_ok (named timeline.assumed (grammar_of item) c.args.line.now)) ≡ false = rw (← c.moment.ensures, ← c.is_some.ensures) c.if-is_some.false in
    let fits = next_fits timeline.assumed timeline.sources.items c.args.line.now c.loop-source.source-index c.loop-source.tried item (rw c.deref-source-items.ensures.value at c.loop-source-test.true) (rw c.deref-source-items.ensures.value at c.source-item.is) c.loop-source.invariant timeline.few in
    omega (arith, fits, c.tried-tried.ensures, tried_later timeline.assumed timeline.sources.items c.args.line.now c.loop-source.source-index c.loop-source.tried item (rw c.deref-source-items.ensures.value at c.loop-source-test.true) (rw c.deref-source-items.ensures.value at c.source-item.is) c.loop-source.invariant is)

pub returns : goal.returns
returns c =
    let timeline = c.args.self.now in
    tried_all timeline.assumed timeline.sources.items c.args.line.now c.loop-source.source-index c.loop-source.tried (omega arith) c.loop-source.invariant
