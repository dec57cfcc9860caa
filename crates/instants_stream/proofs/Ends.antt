-- How a run over a stream ends.
use Rattle.std.proofs.Common.{◌≡◌, ℕ, true, false, Option, None, Some, List, [], ◌++◌, Result, Ok, Err, OnOk, OnErr, refl, sym, ap, ◌∙◌, append-nil}
use Rattle.std.specs.Io.KnownBytes.{Consumes, Keeps}
use Rattle.std.proofs.KnownBytes.{Appends-kept}
use Rattle.instants_stream.specs.Ran.{HasFailedToRead, HasFailedToWrite, HasFlushedAfterRead, Ran, RanAndFlushed}
use Rattle.instants_stream.specs.Known.{StaysOrUnknown, ConsumesOrUnknown, AppendsPrefix}
use Rattle.instants_stream.specs.Writing.{Writing, due}
use Rattle.instants_stream.specs.declared.devices.ByteReader as reader
use Rattle.instants_stream.specs.declared.devices.ByteWriter as writer
use Rattle.instants_stream.specs.declared.devices.DeviceFailed.{DeviceFailed}
use Rattle.instants_stream.specs.declared.run.RunFault.{RunFault}
use Rattle.instants_stream.specs.declared.run.RunFault.TheVariants.{Read, Write}
use Rattle.instants_stream.proofs.Known.{AppendsPrefix-stays}

-- what was read, and then a read that failed
pub ConsumesOrUnknown-stays : (a b c : Option (List ℕ)) (bytes : List ℕ) → Consumes a b bytes → StaysOrUnknown b c → ConsumesOrUnknown a c bytes
ConsumesOrUnknown-stays None b c bytes p q = tt
ConsumesOrUnknown-stays (Some x) None c bytes p q = absurd p
ConsumesOrUnknown-stays (Some x) (Some y) None bytes p q = (y, p)
ConsumesOrUnknown-stays (Some x) (Some y) (Some z) bytes p q = p ∙ ap (λ (l : List ℕ). bytes ++ l) (sym q)

StaysOrUnknown-refl : (a : Option (List ℕ)) → StaysOrUnknown a a
StaysOrUnknown-refl None = tt
StaysOrUnknown-refl (Some x) = refl

-- a write failed
pub failed_to_write : {R W : Type 0} {writing : Writing} {from : reader.Ghosts R} {r r_new : R} {to : writer.Ghosts W} {w w_new : W}
    → (read : List ℕ) × Consumes (from.left r) (from.left r_new) read × AppendsPrefix (to.held w) (to.held w_new) (due writing read (from.left r_new))
    → from.failed r_new ≡ false → to.failed w_new ≡ true → HasFailedToWrite writing from r r_new to w w_new
failed_to_write fails reader_works writer_failed =
    record { read = fails.0; consumed = fails.1; prefix = fails.2; reader_works = reader_works; writer_failed = writer_failed }

module _ {R W : Type 0} (writing : Writing) (from : reader.Ghosts R) (r r_new : R) (to : writer.Ghosts W) (w w_new : W) where
  -- nothing is done after a run, unless it failed to read and the writer failed
  pub unflushed : (ended : Result (Unit {0}) RunFault) → (ended ≡ Err Read → to.failed w_new ≡ true) → Ran writing from r r_new to w w_new ended → RanAndFlushed writing from r r_new to w w_new ended
  unflushed (Ok done) fails ran = ran
  unflushed (Err Read) fails ran = let failed = fails refl in let works = ran.writer_works in absurd cc
  unflushed (Err Write) fails ran = ran

  pub flushed_after : (w_read : W) → HasFailedToRead writing from r r_new to w w_read → (flush : Result (Unit {0}) DeviceFailed)
      → OnOk flush (Keeps (to.held w_read) (to.held w_new)) → OnOk flush (to.flushed w_new ≡ true)
      → OnErr flush (to.failed w_new ≡ true) → OnErr flush (StaysOrUnknown (to.held w_read) (to.held w_new)) → HasFlushedAfterRead writing from r r_new to w w_new
  flushed_after w_read ran (Ok done) kept flushed failed stays =
      let whole = Appends-kept (to.held w) (to.held w_read) (to.held w_new) (writing.owed ran.read) ran.written kept in
      record {
        read = ran.read;
        consumed = ran.consumed;
        written = λ e. whole;
        prefix = AppendsPrefix-stays _ _ _ _ [] _ (sym (append-nil (writing.owed ran.read))) whole (StaysOrUnknown-refl (to.held w_new));
        flushed = λ e. flushed;
        reader_failed = ran.reader_failed;
      }
  flushed_after w_read ran (Err fault) kept flushed failed stays = record {
    read = ran.read;
    consumed = ran.consumed;
    written = λ e. absurd cc;
    prefix = AppendsPrefix-stays _ _ _ _ [] _ (sym (append-nil (writing.owed ran.read))) ran.written stays;
    flushed = λ e. absurd cc;
    reader_failed = ran.reader_failed;
  }
