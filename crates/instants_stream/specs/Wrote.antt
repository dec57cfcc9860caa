-- What a write did to the writer.
use Rattle.std.specs.Prelude.{◌≡◌, ℕ, true, List, Result, OnOk, OnErr}
use Rattle.std.specs.Io.KnownBytes.{Appends}
use Rattle.instants_stream.specs.Known.{AppendsPrefix}
use Rattle.instants_stream.specs.declared.devices.ByteWriter as writer

-- where it ended well these bytes are written, and the writer works as before; else a prefix of them is, and the writer has failed
abbrev pub Wrote : {W T E : Type 0} → writer.Ghosts W → W → W → Result T E → List ℕ → Type 0
Wrote to w w_new result bytes =
    OnOk result (Appends (to.held w) (to.held w_new) bytes)
    × OnOk result (to.failed w_new ≡ to.failed w)
    × OnErr result (AppendsPrefix (to.held w) (to.held w_new) bytes)
    × OnErr result (to.failed w_new ≡ true)
