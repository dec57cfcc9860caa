-- What a writer holds that gathers bytes in a block.
use Rattle.std.specs.Prelude.{ℕ, Option, List, take, drop}
use Rattle.std.specs.Io.KnownBytes.{append_known}
use Rattle.instants_stream.specs.declared.block_writer.BlockWriter.{BlockWriter}

-- what is held below, and after that the bytes of the block from the start to the end
abbrev pub gathered : Option (List ℕ) → List ℕ → ℕ → ℕ → Option (List ℕ)
gathered below block start end = append_known below (drop start (take end block))

-- what the writer below holds
abbrev pub held_below : {W : Type 0} → (W → Option (List ℕ)) → BlockWriter W → Option (List ℕ)
held_below held writer = held writer.inner

-- what a block writer holds
abbrev pub held_by : {W : Type 0} → (W → Option (List ℕ)) → BlockWriter W → Option (List ℕ)
held_by held writer = gathered (held writer.inner) writer.block.items writer.start writer.end
