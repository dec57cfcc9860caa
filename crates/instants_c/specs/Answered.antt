-- What a call on an open handle does.
use Rattle.std.specs.Prelude.{◌≡◌, ◌<◌, ◌≤◌, ◌+◌, ◌*◌, ◌==◌, ℕ, List, ◌++◌, length, map, take, drop, count_by}
use Rattle.base.specs.Bytes.{line_feed}
use Rattle.instants_stream.specs.Answers.{output}
use Rattle.instants_stream.specs.Lines.{lines}
use Rattle.instants_timeline.specs.Place.{answer_to}
use Rattle.instants_timeline.specs.Settings.{setting_of}
use Rattle.instants_memory.specs.Numbers.{entry_of}
use Rattle.instants_memory.specs.declared.moments.Moment.{Moment}
use Rattle.instants_c.specs.declared.kept.Kept.{Kept}

-- what is due for an input by what is kept
abbrev pub due_by : Kept → List ℕ → List ℕ
due_by kept = output (answer_to (setting_of kept.timeline)) kept.limit

-- exactly what is due is written into the start of a room, and what lies after stays; or it is longer than the room, which is full of its beginning
pub record IsAnswered (kept : Kept) (input : List ℕ) (status written : ℕ) (before after : List ℕ) : Type 0 where
  pub either : status ≤ 1
  pub ok : status ≡ 0 → (written ≡ length (due_by kept input)) × (after ≡ due_by kept input ++ drop written before)
  pub short : status ≡ 1 → (length before < length (due_by kept input)) × (written ≡ length before) × (after ≡ take written (due_by kept input))
  -- 36 bytes a line are room enough
  pub line_room : 36 * length (lines input) ≤ length before → status ≡ 0
  -- so are as many for each line feed, and once more
  pub feed_room : 36 * (count_by (λ b. b == line_feed) input + 1) ≤ length before → status ≡ 0

-- the entries of an input's lines by what is kept
abbrev pub entries_by : Kept → List ℕ → List Moment
entries_by kept input = map (entry_of (setting_of kept.timeline) kept.limit) (lines input)

-- exactly the entries of the lines are written into the start of a room, and what lies after stays; or there are more lines than the room has entries, which are those of the first lines
pub record IsNumbered (kept : Kept) (input : List ℕ) (status written : ℕ) (before after : List Moment) : Type 0 where
  pub either : status ≤ 1
  pub ok : status ≡ 0 → (written ≡ length (lines input)) × (after ≡ entries_by kept input ++ drop written before)
  pub short : status ≡ 1 → (length before < length (lines input)) × (written ≡ length before) × (after ≡ take written (entries_by kept input))
  -- an entry a line is room enough
  pub line_room : length (lines input) ≤ length before → status ≡ 0
  -- so are as many as there are line feeds, and one more
  pub feed_room : count_by (λ b. b == line_feed) input + 1 ≤ length before → status ≡ 0
