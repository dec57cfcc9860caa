-- What calls on what is asked write for lines in memory.
use Rattle.std.specs.Prelude.{◌≡◌, ◌<◌, ℕ, List, ◌++◌, length, take, drop, Result, Ok, Err}
use Rattle.instants_stream.specs.Lines.{lines}
use Rattle.instants_stream.specs.declared.put.TooLittleRoom.{TooLittleRoom}
use Rattle.instants_lines.specs.Going.{Going}
use Rattle.instants_lines.specs.LineDates.{dates_from}
use Rattle.instants_lines.specs.declared.above.Above.{Above}
use Rattle.instants_lines.specs.declared.line_date.LineDate.{LineDate}
use Rattle.instants_lines_memory.specs.Over.{IsAboveAfter, keys_of}
use Rattle.instants_lines_memory.specs.Zoned.{IsBegin}
use Rattle.instants_lines_memory.specs.declared.zoned_lines.ZonedLines.{ZonedLines}

-- the output of the program stands at the start of a room, what lies after it stays, and what lines below take is given out; or the output is longer than the room, which is full of its beginning
pub record AreKeysWritten (zoned : ZonedLines) (above : Above) (input before : List ℕ) (result : Result ℕ TooLittleRoom) (above_after : Above) (after : List ℕ) : Type 0 where
  pub begins : Going
  pub is_begin : IsBegin zoned begins
  pub ok : (len : ℕ) → result ≡ Ok len → (len ≡ length (keys_of begins above input)) × (after ≡ keys_of begins above input ++ drop len before)
  pub below : (len : ℕ) → result ≡ Ok len → IsAboveAfter begins above input above_after
  pub longer : (fault : TooLittleRoom) → result ≡ Err fault → (length before < length (keys_of begins above input)) × (after ≡ take (length before) (keys_of begins above input))
  pub stays : (fault : TooLittleRoom) → result ≡ Err fault → above_after ≡ above

-- the dates of the lines stand at the start of a room, and what lies after them stays; or there are more lines than the room has entries, which are those of the first lines
pub record AreDatesWritten (zoned : ZonedLines) (input : List ℕ) (before : List LineDate) (result : Result ℕ TooLittleRoom) (after : List LineDate) : Type 0 where
  pub begins : Going
  pub is_begin : IsBegin zoned begins
  pub ok : (len : ℕ) → result ≡ Ok len → (len ≡ length (lines input)) × (after ≡ dates_from begins (lines input) ++ drop len before)
  pub longer : (fault : TooLittleRoom) → result ≡ Err fault → (length before < length (lines input)) × (after ≡ take (length before) (dates_from begins (lines input)))
