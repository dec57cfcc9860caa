use Rattle.std.proofs.Common.{◌+◌, arith}
use Rattle.instants_found.specs.Finder.{sources_of}
use Rattle.instants_found.proofs.KeyLemmas.{marks_of}
use Rattle.instants_found.proofs.Next.{marks_ended, marks_from}
use Rattle.instants_found.proofs.finder.Finder.in_block.Goals as goal

pub returns-then-bits-eq0-clause-none : goal.returns-then-bits-eq0-clause-none
returns-then-bits-eq0-clause-none c =
    let start = c.args.start in
    let marks = marks_of (sources_of c.args.self.now) c.args.line.now c.args.self.now.starts c.args.marks.now start c.bits-bits.result c.args.self.now.starts_are c.requires.marks (λ k. (c.type_inv.line k).fits) c.bits-bits.ensures in
    let none = marks_ended (sources_of c.args.self.now) c.args.line.now start (start + 16) c.bits-bits.result marks c.if-bits-eq0.true in
    λ place low high. none place (omega (arith, low)) high

pub by_marks-requires-clause-marks : goal.by_marks-requires-clause-marks
by_marks-requires-clause-marks c =
    marks_from (sources_of c.args.self.now) c.args.line.now c.args.start c.args.from (c.args.start + 16) c.bits-bits.result (omega arith)
    (marks_of (sources_of c.args.self.now) c.args.line.now c.args.self.now.starts c.args.marks.now c.args.start c.bits-bits.result c.args.self.now.starts_are c.requires.marks (λ k. (c.type_inv.line k).fits) c.bits-bits.ensures)
