use Rattle.std.proofs.Common.{◌≡◌, ℕ, ◌+◌, ◌-◌, subst, w64, arith}
use Rattle.std.specs.Int.{trailing_zeros}
use Rattle.instants_found.specs.Finder.{sources_of}
use Rattle.instants_found.specs.Starts.{HasNoDate}
use Rattle.instants_found.proofs.NoDates.{none_more}
use Rattle.instants_found.proofs.Next.{none_at_more, marks_passed, marks_ended, marks_after}
use Rattle.instants_found.proofs.finder.Finder.by_marks.Goals as goal

pub returns-then-after-to-clause-none : goal.returns-then-after-to-clause-none
returns-then-after-to-clause-none c =
    let sources = sources_of c.args.self.now in
    let line = c.args.line.now in
    let l = c.loop-left in
    let none = marks_passed sources line l.at c.args.to l.left (c.args.to - l.at) l.invariant.marks (omega arith) (omega arith) (omega arith) (omega arith) in
    let end : l.at + (c.args.to - l.at) ≡ c.args.to = omega arith in
    none_more sources line c.args.from l.at c.args.to l.invariant.passed (subst (HasNoDate sources line l.at) end none)

pub returns-then-can_start-clause-passed : goal.returns-then-can_start-clause-passed
returns-then-can_start-clause-passed c =
    let sources = sources_of c.args.self.now in
    let line = c.args.line.now in
    let l = c.loop-left in
    let after : ℕ = trailing_zeros w64 l.left in
    let none = marks_passed sources line l.at c.args.to l.left after l.invariant.marks (omega arith) (omega arith) (omega arith) (omega arith) in
    none_more sources line c.args.from l.at (l.at + after) l.invariant.passed none

pub loop-left-preserved : goal.loop-left-preserved
loop-left-preserved c =
    let sources = sources_of c.args.self.now in
    let line = c.args.line.now in
    let l = c.loop-left in
    let after : ℕ = trailing_zeros w64 l.left in
    let none = marks_passed sources line l.at c.args.to l.left after l.invariant.marks (omega arith) (omega arith) (omega arith) (omega arith) in
    let passed = none_more sources line c.args.from l.at (l.at + after) l.invariant.passed none in
    record {
      low = omega arith;
      high = omega arith;
      passed = none_at_more sources line c.args.from (l.at + after) passed (c.can_start.ensures.none c.if-can_start.false);
      marks = marks_after sources line l.at c.args.to l.left after l.invariant.marks;
    }

pub returns-clause-none : goal.returns-clause-none
returns-clause-none c =
    let sources = sources_of c.args.self.now in
    let line = c.args.line.now in
    let l = c.loop-left in
    none_more sources line c.args.from l.at c.args.to l.invariant.passed (marks_ended sources line l.at c.args.to l.left l.invariant.marks (omega arith))
