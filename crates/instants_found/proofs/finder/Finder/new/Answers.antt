use Rattle.std.proofs.Common.{map}
use Rattle.instants_sources.specs.Grammar.{grammar_of}
use Rattle.instants_found.specs.Marks.{AreMarks}
use Rattle.instants_found.proofs.SourceKeys.{for_some}
use Rattle.instants_found.proofs.finder.Finder.new.Goals as goal

pub invariant_of-result : goal.invariant_of-result
invariant_of-result c =
    let same = c.in_ok-date_sources.ensures in
    record {
      starts_are = rw same (rw c.deref.ensures.value at c.marked_at-starts.ensures);
      marks_are = rw same (for_some (AreMarks (map grammar_of c.args.sources.items) c.marked_at-starts.result) c.of-marks.result (rw c.deref-2.ensures.value at c.of-marks.ensures));
    }
