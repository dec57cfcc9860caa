use Rattle.std.proofs.Common.{◌≡◌, ℕ, ◌+◌, ◌-◌, ◌≤◌, ◌<◌, Bool, true, false, List, ◌++◌, length, take, refl, ap, ◌∙◌, arith, rules}
use Rattle.std.specs.Io.KnownBytes.{IsAtEnd}
use Rattle.std.proofs.lemmas.Grind.{common_steps}
use Rattle.instants_stream.specs.Lines.{last_part}
use Rattle.instants_stream.specs.Came.{kept}
use Rattle.instants_stream.proofs.Known.{on_ok, on_err}
use Rattle.instants_stream.proofs.Ends.{ConsumesOrUnknown-stays, failed_to_write}
use Rattle.instants_stream.proofs.Progress.{Progress, begins, handed_on, pauses, line_is_free, fails_to_hand_on, fails_at_end, through, more_came, more_fails, fails_at_flush, done}
use Rattle.instants_stream.proofs.Pending.{pending, length-pending, pending_more, pending_rest, pending_moved, pending_kept, pending_same, size_kept}
use Rattle.instants_stream.proofs.run.write_lines.Goals as goal
use Rattle.instants_stream.proofs.run.write_lines.Goals.{In-Ok-write_came, In-Ok}
use borrow.Rule.Slice.PartMut.{put_mid}

pub loop-limit-init : goal.loop-limit-init
loop-limit-init g c = record {
  progress = begins _ _ _ _ _ _;
  size = refl;
  room = c.requires.room;
  ordered = omega arith;
  within = omega (arith, c.requires.room);
  reader_works = c.requires.reader;
  writer_works = c.requires.writer;
}

-- nothing is kept of a line that is begun
none_kept : (line part : List ℕ) (is_begun : Bool) → line ≡ kept is_begun part → is_begun ≡ true → length line ≡ 0
none_kept line part true e begun = rw e refl
none_kept line part false e begun = absurd cc

pub write_came-requires-clause-writer : goal.write_came-requires-clause-writer
write_came-requires-clause-writer g c = on_ok c.hand_on.result c.is_err.result c.is_err.ensures.value c.if-is_err.false c.hand_on.ensures.ok ∙ c.loop-limit.invariant.writer_works

pub write_came-requires-clause-begun : goal.write_came-requires-clause-begun
write_came-requires-clause-begun g c = λ begun.
    let i = c.loop-limit.invariant in
    let none = none_kept _ _ _ i.progress.line_is begun in
    let size = length-pending c.loop-limit.buffer c.loop-limit.start c.loop-limit.filled (omega (arith, i.size, i.within)) in
    omega (arith, none, size)

-- no byte that was pending before the read is a line feed
pub write_came-requires-clause-free : goal.write_came-requires-clause-free
write_came-requires-clause-free g c =
    let i = c.loop-limit.invariant in
    let buffer = c.loop-limit.buffer in
    let filled = c.loop-limit.filled in
    let fits : filled ≤ length buffer = omega arith in
    rw (pending_kept buffer c.read.new.into c.loop-limit.start filled c.in-Ok.count (length buffer - filled) i.ordered fits c.in-Ok.ensures.within) (line_is_free _ _ _ _ _ _ _ _ _ _ _ i.progress)

pub returns-in_default-write_came-clause-ran : goal.returns-in_default-write_came-clause-ran
returns-in_default-write_came-clause-ran g c =
    let i = c.loop-limit.invariant in
    let buffer = c.loop-limit.buffer in
    let start = c.loop-limit.start in
    let filled = c.loop-limit.filled in
    let into = c.read.new.into in
    let count = c.in-Ok.count in
    let fits : filled ≤ length buffer = omega arith in
    let more = pending_more buffer into start filled count (length buffer - filled) i.ordered fits c.in-Ok.ensures.within in
    let wrote = rw more at c.in_default-write_came.ensures.wrote.2 in
    let handed = on_ok c.hand_on.result c.is_err.result c.is_err.ensures.value c.if-is_err.false c.hand_on.ensures.held in
    failed_to_write (more_fails _ _ _ _ (g.S.WritesLines.state c.loop-limit.steps) _ _ _ _ _ _ _ (handed_on _ _ _ _ _ _ _ _ _ _ _ i.progress _ handed) _ _ c.in-Ok.ensures.moved wrote)
    (c.in-Ok.ensures.ok ∙ i.reader_works) c.in_default-write_came.ensures.wrote.3

-- where the run stands when what came is written
stands : (g : _) (c : In-Ok-write_came g)
    → (let next = put_mid c.loop-limit.filled (length c.loop-limit.buffer - c.loop-limit.filled) c.loop-limit.buffer c.read.new.into in
    let line = pending next (c.loop-limit.start + c.in-Ok-write_came.left.start) (c.loop-limit.filled + c.in-Ok.count) in
    Progress g.S.WritesLines.State g.S.WritesLines.steps (g.S.WritesLines.state c.args.steps.now) (g.S.WritesLines.state c.write_came.new.steps) c.args.limit (g.R.ByteReader.left c.args.reader.now) (g.R.ByteReader.left c.read.new.self) (g.W.ByteWriter.held c.args.writer.now) (g.W.ByteWriter.held c.write_came.new.writer) line c.in-Ok-write_came.left.is_begun
    × (c.loop-limit.start + c.in-Ok-write_came.left.start ≤ c.loop-limit.filled + c.in-Ok.count) × (c.loop-limit.filled + c.in-Ok.count - (c.loop-limit.start + c.in-Ok-write_came.left.start) ≤ c.args.limit) × (c.loop-limit.filled + c.in-Ok.count ≤ length c.loop-limit.buffer) × (length next ≡ length c.loop-limit.buffer))
stands g c =
    let i = c.loop-limit.invariant in
    let buffer = c.loop-limit.buffer in
    let start = c.loop-limit.start in
    let filled = c.loop-limit.filled in
    let into = c.read.new.into in
    let count = c.in-Ok.count in
    let k = length buffer - filled in
    let left = c.in-Ok-write_came.left in
    let wrote = c.in-Ok-write_came.ensures in
    let fits : filled ≤ length buffer = omega arith in
    let into_size : length into ≡ length buffer - filled = grind (arith, common_steps) in
    let more = pending_more buffer into start filled count k i.ordered fits c.in-Ok.ensures.within in
    let size = size_kept buffer into filled k fits refl into_size in
    let next_fits : filled + count ≤ length buffer = omega (arith, c.in-Ok.ensures.within) in
    let whole = length-pending (put_mid filled k buffer into) start (filled + count) (omega arith) in
    let ordered : start + left.start ≤ filled + count = omega (arith, wrote.within, whole, i.ordered) in
    let short : filled + count - (start + left.start) ≤ c.args.limit = omega (arith, wrote.short, whole, i.ordered) in
    let line_is : pending (put_mid filled k buffer into) (start + left.start) (filled + count) ≡ kept left.is_begun (last_part (pending buffer start filled ++ take count into)) = pending_rest (put_mid filled k buffer into) start (filled + count) left.start ordered ∙ wrote.rest ∙ ap (λ l. kept left.is_begun (last_part l)) more in
    let handed = on_ok c.hand_on.result c.is_err.result c.is_err.ensures.value c.if-is_err.false c.hand_on.ensures.held in
    let progress = more_came _ _ _ _ (g.S.WritesLines.state c.loop-limit.steps) _ _ _ _ _ _ _ (handed_on _ _ _ _ _ _ _ _ _ _ _ i.progress _ handed) _ _ c.in-Ok.ensures.moved (g.S.WritesLines.state c.write_came.new.steps) _ _ (rw more at wrote.wrote.0) (rw more at wrote.state) (rw more at wrote.begun) line_is in
    (progress, ordered, short, next_fits, size)

pub loop-limit-preserved-then-start-filled : goal.loop-limit-preserved-then-start-filled
loop-limit-preserved-then-start-filled g c =
    let i = c.loop-limit.invariant in
    let (progress, ordered, short, ends, size) = stands g (goal.at.loop-limit-preserved-then-start-filled g c).In-Ok-write_came in
    let start_next = c.loop-limit.start + c.in-Ok-write_came.left.start in
    let filled_next = c.loop-limit.filled + c.in-Ok.count in
    let none : filled_next - start_next ≡ 0 = omega (arith, c.if-start-filled.true) in
    record {
      progress = rw none at progress;
      size = size ∙ i.size;
      room = i.room;
      ordered = omega arith;
      within = omega (arith, i.room);
      reader_works = c.in-Ok.ensures.ok ∙ i.reader_works;
      writer_works = c.in-Ok-write_came.ensures.wrote.1 ∙ on_ok c.hand_on.result c.is_err.result c.is_err.ensures.value c.if-is_err.false c.hand_on.ensures.ok ∙ i.writer_works;
    }

pub loop-limit-preserved-then-filled-buffer : goal.loop-limit-preserved-then-filled-buffer
loop-limit-preserved-then-filled-buffer g c =
    let i = c.loop-limit.invariant in
    let buffer = c.loop-limit.buffer in
    let filled = c.loop-limit.filled in
    let next = put_mid filled (length buffer - filled) buffer c.read.new.into in
    let (progress, ordered, short, ends, size) = stands g (goal.at.loop-limit-preserved-then-filled-buffer g c).In-Ok-write_came in
    let start_next = c.loop-limit.start + c.in-Ok-write_came.left.start in
    let filled_next = filled + c.in-Ok.count in
    let moved : take (filled_next - start_next - 0) c.copy_within.new.self ≡ pending next start_next filled_next = ap (take (filled_next - start_next - 0)) c.copy_within.ensures.after ∙ pending_moved next start_next filled_next (filled_next - start_next - 0) ordered c.if-filled-buffer.true (omega arith) in
    record {
      progress = rw moved progress;
      size = c.copy_within.ensures.len ∙ size ∙ i.size;
      room = i.room;
      ordered = omega arith;
      within = omega (arith, i.room, short);
      reader_works = c.in-Ok.ensures.ok ∙ i.reader_works;
      writer_works = c.in-Ok-write_came.ensures.wrote.1 ∙ on_ok c.hand_on.result c.is_err.result c.is_err.ensures.value c.if-is_err.false c.hand_on.ensures.ok ∙ i.writer_works;
    }

pub loop-limit-preserved : goal.loop-limit-preserved
loop-limit-preserved g c =
    let i = c.loop-limit.invariant in
    let (progress, ordered, short, ends, size) = stands g (goal.at.loop-limit-preserved g c).In-Ok-write_came in
    let room : c.loop-limit.filled + c.in-Ok.count < length c.args.buffer.now = omega (arith, size, i.size, ends, c.if-filled-buffer.false) in
    record {
      progress = progress;
      size = size ∙ i.size;
      room = i.room;
      ordered = ordered;
      within = room;
      reader_works = c.in-Ok.ensures.ok ∙ i.reader_works;
      writer_works = c.in-Ok-write_came.ensures.wrote.1 ∙ on_ok c.hand_on.result c.is_err.result c.is_err.ensures.value c.if-is_err.false c.hand_on.ensures.ok ∙ i.writer_works;
    }

pub loop-limit-smaller-then-start-filled : goal.loop-limit-smaller-then-start-filled
loop-limit-smaller-then-start-filled g c = c.in-Ok.ensures.ends (omega (arith, c.if-count-eq0.false))

pub loop-limit-smaller-then-filled-buffer : goal.loop-limit-smaller-then-filled-buffer
loop-limit-smaller-then-filled-buffer g c = c.in-Ok.ensures.ends (omega (arith, c.if-count-eq0.false))

pub loop-limit-smaller : goal.loop-limit-smaller
loop-limit-smaller g c = c.in-Ok.ensures.ends (omega (arith, c.if-count-eq0.false))

-- handing on failed
pub returns-then-is_err-clause-ran : goal.returns-then-is_err-clause-ran
returns-then-is_err-clause-ran g c =
    let i = c.loop-limit.invariant in
    let stays = on_err c.hand_on.result c.is_err.result c.is_err.ensures.value c.if-is_err.true c.hand_on.ensures.kept in
    failed_to_write (fails_to_hand_on _ _ _ _ _ _ _ _ _ _ _ _ i.progress stays) i.reader_works (search rules)

-- a read failed
pub returns-in_default-clause-ran : goal.returns-in_default-clause-ran
returns-in_default-clause-ran g c =
    let held = on_ok c.hand_on.result c.is_err.result c.is_err.ensures.value c.if-is_err.false c.hand_on.ensures.held in
    let progress = handed_on _ _ _ _ _ _ _ _ _ _ _ c.loop-limit.invariant.progress _ held in
    record {
      read = progress.bytes;
      consumed = ConsumesOrUnknown-stays _ _ _ _ progress.read c.in_default.ensures.kept;
      written = progress.written;
      reader_failed = c.in_default.ensures.err;
      writer_works = search rules;
    }

pub returns-in_default-clause-handed_on : goal.returns-in_default-clause-handed_on
returns-in_default-clause-handed_on g c = λ _. on_ok c.hand_on.result c.is_err.result c.is_err.ensures.value c.if-is_err.false c.hand_on.ensures.all

-- the reader is at its end
paused : (g : _) (c : In-Ok g) → c.in-Ok.count ≡ 0
    → (let next = put_mid c.loop-limit.filled (length c.loop-limit.buffer - c.loop-limit.filled) c.loop-limit.buffer c.read.new.into in
    Progress g.S.WritesLines.State g.S.WritesLines.steps (g.S.WritesLines.state c.args.steps.now) (g.S.WritesLines.state c.loop-limit.steps) c.args.limit (g.R.ByteReader.left c.args.reader.now) (g.R.ByteReader.left c.read.new.self) (g.W.ByteWriter.held c.args.writer.now) (g.W.ByteWriter.held c.hand_on.new.self) (pending next c.loop-limit.start c.loop-limit.filled) c.loop-limit.is_begun × IsAtEnd (g.R.ByteReader.left c.read.new.self))
paused g c none =
    let i = c.loop-limit.invariant in
    let buffer = c.loop-limit.buffer in
    let filled = c.loop-limit.filled in
    let handed = on_ok c.hand_on.result c.is_err.result c.is_err.ensures.value c.if-is_err.false c.hand_on.ensures.held in
    let fits : filled ≤ length buffer = omega arith in
    let into_size : length c.read.new.into ≡ length buffer - filled = grind (arith, common_steps) in
    let same = pending_same buffer c.read.new.into c.loop-limit.start filled (length buffer - filled) i.ordered fits in
    (rw same (pauses _ _ _ _ _ _ _ _ _ _ _ (handed_on _ _ _ _ _ _ _ _ _ _ _ i.progress _ handed) _ (rw none at c.in-Ok.ensures.moved)), c.in-Ok.ensures.none none (omega arith))

-- a write at the end failed
pub returns-then-is_err-2-clause-ran : goal.returns-then-is_err-2-clause-ran
returns-then-is_err-2-clause-ran g c =
    let (progress, ends) = paused g (goal.at.returns-then-is_err-2-clause-ran g c).In-Ok c.if-count-eq0.true in
    let wrote = on_err c.write_end.result c.is_err-2.result c.is_err-2.ensures.value c.if-is_err-2.true c.write_end.ensures.2 in
    failed_to_write (fails_at_end _ _ _ _ _ _ _ _ _ _ _ _ progress ends wrote) (c.in-Ok.ensures.ok ∙ c.loop-limit.invariant.reader_works) (search rules)

-- the flush failed
pub returns-then-is_err-3-clause-ran : goal.returns-then-is_err-3-clause-ran
returns-then-is_err-3-clause-ran g c =
    let (progress, ends) = paused g (goal.at.returns-then-is_err-3-clause-ran g c).In-Ok c.if-count-eq0.true in
    let wrote = on_ok c.write_end.result c.is_err-2.result c.is_err-2.ensures.value c.if-is_err-2.false c.write_end.ensures.0 in
    let stays = on_err c.flush.result c.is_err-3.result c.is_err-3.ensures.value c.if-is_err-3.true c.flush.ensures.kept in
    failed_to_write (fails_at_flush _ _ _ _ _ _ _ _ _ (through _ _ _ _ _ _ _ _ _ _ _ _ progress ends wrote) stays) (search rules) (search rules)

pub returns-clause-ran : goal.returns-clause-ran
returns-clause-ran g c =
    let (progress, ends) = paused g (goal.at.returns-clause-ran g c).In-Ok c.if-count-eq0.true in
    let wrote = on_ok c.write_end.result c.is_err-2.result c.is_err-2.ensures.value c.if-is_err-2.false c.write_end.ensures.0 in
    let held = on_ok c.flush.result c.is_err-3.result c.is_err-3.ensures.value c.if-is_err-3.false c.flush.ensures.moved in
    record {
      whole = done _ _ _ _ _ _ _ _ _ (through _ _ _ _ _ _ _ _ _ _ _ _ progress ends wrote) held;
      flushed = search rules;
      reader_works = search rules;
      writer_works = search rules;
    }
