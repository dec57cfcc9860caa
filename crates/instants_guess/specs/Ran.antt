-- What a guess did to the device that it read from and the one that it wrote to.
use Rattle.std.specs.Prelude.{◌≡◌, ◌≤◌, ℕ, true, false, List, length, drop, Some, Result, Ok, Err, IfSome}
use Rattle.std.specs.Io.KnownBytes.{Appends}
use Rattle.instants_stream.specs.Known.{ConsumesOrUnknown, AppendsPrefix}
use Rattle.instants_stream.specs.declared.devices.ByteReader as reader
use Rattle.instants_stream.specs.declared.devices.ByteWriter as writer
use Rattle.instants_stream.specs.declared.run.RunFault.{RunFault}
use Rattle.instants_stream.specs.declared.run.RunFault.TheVariants.{Read, Write}
use Rattle.instants_guess.specs.Tallies.{most}

-- The reader and the writer were so before, and are so after it.
module _ {R W : Type 0} (from : reader.Ghosts R) (r r_new : R) (to : writer.Ghosts W) (w w_new : W) where
  -- the first bytes of the stream were read, and no more
  abbrev pub HasReadFirst : Type 0
  HasReadFirst = IfSome (from.left r) (λ stream. from.left r_new ≡ Some (drop most stream))

  -- they were read, some text was written, and the writer was flushed
  pub record IsThrough : Type 0 where
    pub read : HasReadFirst
    pub text : List ℕ
    pub written : Appends (to.held w) (to.held w_new) text
    pub flushed : to.flushed w_new ≡ true
    pub reader_works : from.failed r_new ≡ false
    pub writer_works : to.failed w_new ≡ false

  -- a read failed: no more than the first bytes were read, and nothing was written
  pub record HasFailedToRead : Type 0 where
    pub read : List ℕ
    pub few : length read ≤ most
    pub consumed : ConsumesOrUnknown (from.left r) (from.left r_new) read
    pub reader_failed : from.failed r_new ≡ true
    pub unwritten : w_new ≡ w

  -- a write or the flush failed: the first bytes were read, and a prefix of some text was written
  pub record HasFailedToWrite : Type 0 where
    pub read : HasReadFirst
    pub text : List ℕ
    pub prefix : AppendsPrefix (to.held w) (to.held w_new) text
    pub reader_works : from.failed r_new ≡ false
    pub writer_failed : to.failed w_new ≡ true

  -- the guess ended so
  abbrev pub Ran : Result (Unit {0}) RunFault → Type 0
  Ran (Ok done) = IsThrough
  Ran (Err Read) = HasFailedToRead
  Ran (Err Write) = HasFailedToWrite
