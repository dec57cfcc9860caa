-- What a call on an open handle for lines does.
use Rattle.std.specs.Prelude.{◌≡◌, ◌<◌, ◌≤◌, ◌+◌, ◌==◌, ℕ, List, ◌++◌, length, take, drop, count_by}
use Rattle.base.specs.Bytes.{line_feed}
use Rattle.instants_stream.specs.Lines.{lines}
use Rattle.instants_lines.specs.Going.{Going}
use Rattle.instants_lines.specs.LineDates.{dates_from}
use Rattle.instants_lines.specs.declared.above.Above.{Above}
use Rattle.instants_lines.specs.declared.line_date.LineDate.{LineDate}
use Rattle.instants_lines_memory.specs.Over.{IsAboveAfter, keys_of}
use Rattle.instants_lines_memory.specs.Zoned.{IsBegin}
use Rattle.instants_c.specs.declared.lines_kept.KeptLines.{KeptLines}

-- exactly the output of the program is written into the start of a room, what lies after stays, and what lines below take is given out; or it is longer than the room, which is full of its beginning
pub record AreKeysPut (kept : KeptLines) (above : Above) (input : List ℕ) (status written : ℕ) (before : List ℕ) (above_after : Above) (after : List ℕ) : Type 0 where
  pub begins : Going
  pub is_begin : IsBegin kept.zoned begins
  pub either : status ≤ 1
  pub ok : status ≡ 0 → (written ≡ length (keys_of begins above input)) × (after ≡ keys_of begins above input ++ drop written before)
  pub below : status ≡ 0 → IsAboveAfter begins above input above_after
  pub short : status ≡ 1 → (length before < length (keys_of begins above input)) × (written ≡ length before) × (after ≡ take written (keys_of begins above input))
  pub stays : status ≡ 1 → above_after ≡ above

-- exactly the dates of the lines are written into the start of a room, and what lies after stays; or there are more lines than the room has entries, which are those of the first lines
pub record AreDatesPut (kept : KeptLines) (input : List ℕ) (status written : ℕ) (before after : List LineDate) : Type 0 where
  pub begins : Going
  pub is_begin : IsBegin kept.zoned begins
  pub either : status ≤ 1
  pub ok : status ≡ 0 → (written ≡ length (lines input)) × (after ≡ dates_from begins (lines input) ++ drop written before)
  pub short : status ≡ 1 → (length before < length (lines input)) × (written ≡ length before) × (after ≡ take written (dates_from begins (lines input)))
  -- as many entries as there are line feeds, and one more, are room enough
  pub feed_room : count_by (λ b. b == line_feed) input + 1 ≤ length before → status ≡ 0
