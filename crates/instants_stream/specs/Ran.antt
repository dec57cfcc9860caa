-- What a run over a stream did to the device that it read from and the one that it wrote to.
use Rattle.std.specs.Prelude.{◌≡◌, ℕ, true, false, List, [], Some, Result, Ok, Err, IfSome}
use Rattle.std.specs.Io.KnownBytes.{Consumes, Appends}
use Rattle.instants_stream.specs.Known.{ConsumesOrUnknown, AppendsPrefix}
use Rattle.instants_stream.specs.Writing.{Writing, due}
use Rattle.instants_stream.specs.declared.devices.ByteReader as reader
use Rattle.instants_stream.specs.declared.devices.ByteWriter as writer
use Rattle.instants_stream.specs.declared.run.RunFault.{RunFault}
use Rattle.instants_stream.specs.declared.run.RunFault.TheVariants.{Read, Write}

-- There is this to write, and the reader and the writer were so before the run, and are so after it.
module _ {R W : Type 0} (writing : Writing) (from : reader.Ghosts R) (r r_new : R) (to : writer.Ghosts W) (w w_new : W) where
  -- all that the reader had was read, exactly its output was written, and the writer was flushed
  pub record IsThrough : Type 0 where
    pub whole : IfSome (from.left r) (λ stream. (from.left r_new ≡ Some []) × Appends (to.held w) (to.held w_new) (writing.output stream))
    pub flushed : to.flushed w_new ≡ true
    pub reader_works : from.failed r_new ≡ false
    pub writer_works : to.failed w_new ≡ false

  -- a read failed, and no write: exactly what is owed for the bytes that were read is written
  pub record HasFailedToRead : Type 0 where
    pub read : List ℕ
    pub consumed : ConsumesOrUnknown (from.left r) (from.left r_new) read
    pub written : Appends (to.held w) (to.held w_new) (writing.owed read)
    pub reader_failed : from.failed r_new ≡ true
    pub writer_works : to.failed w_new ≡ false

  -- a write or the flush failed, and no read: a prefix of what is due for the bytes that were read is written
  pub record HasFailedToWrite : Type 0 where
    pub read : List ℕ
    pub consumed : Consumes (from.left r) (from.left r_new) read
    pub prefix : AppendsPrefix (to.held w) (to.held w_new) (due writing read (from.left r_new))
    pub reader_works : from.failed r_new ≡ false
    pub writer_failed : to.failed w_new ≡ true

  -- a read failed, and then the writer was flushed, which may fail: what is owed is written as far as the writer works
  pub record HasFlushedAfterRead : Type 0 where
    pub read : List ℕ
    pub consumed : ConsumesOrUnknown (from.left r) (from.left r_new) read
    pub written : to.failed w_new ≡ false → Appends (to.held w) (to.held w_new) (writing.owed read)
    pub prefix : AppendsPrefix (to.held w) (to.held w_new) (writing.owed read)
    pub flushed : to.failed w_new ≡ false → to.flushed w_new ≡ true
    pub reader_failed : from.failed r_new ≡ true

  -- the run ended so
  abbrev pub Ran : Result (Unit {0}) RunFault → Type 0
  Ran (Ok done) = IsThrough
  Ran (Err Read) = HasFailedToRead
  Ran (Err Write) = HasFailedToWrite

  -- the same where the writer is flushed also after a read that failed
  abbrev pub RanAndFlushed : Result (Unit {0}) RunFault → Type 0
  RanAndFlushed (Ok done) = IsThrough
  RanAndFlushed (Err Read) = HasFlushedAfterRead
  RanAndFlushed (Err Write) = HasFailedToWrite
