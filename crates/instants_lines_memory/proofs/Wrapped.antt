-- What calls on what is asked write, by the reference to its zone.
use Rattle.std.proofs.Common.{◌≡◌, ◌<◌, ℕ, List, ◌++◌, length, take, drop, Option, Result, Ok, Err, IfOk, OnErr, refl, sym, subst}
use Rattle.std.specs.Borrow.{Bor}
use Rattle.std.specs.Option.{option_copied}
use Rattle.zones_clock.specs.declared.zone.Zone.{Zone}
use Rattle.instants_stream.specs.Lines.{lines}
use Rattle.instants_stream.specs.declared.put.TooLittleRoom.{TooLittleRoom}
use Rattle.instants_lines.specs.LineDates.{dates_from}
use Rattle.instants_lines.specs.Opened.{begins_in}
use Rattle.instants_lines.specs.declared.above.Above.{Above}
use Rattle.instants_lines.specs.declared.line_date.LineDate.{LineDate}
use Rattle.instants_lines_memory.specs.Over.{IsAboveAfter, keys_of}
use Rattle.instants_lines_memory.specs.ZonedOver.{AreDatesWritten, AreKeysWritten}
use Rattle.instants_lines_memory.specs.declared.zoned_lines.ZonedLines.{ZonedLines}

module _ (zoned : ZonedLines) (there : Option (Bor Zone)) (is : option_copied there ≡ zoned.zone) (input : List ℕ) where
  pub keys_written : (result : Result ℕ TooLittleRoom) (above later : Above) (before after : List ℕ)
      → IfOk result (λ len. len ≡ length (keys_of (begins_in zoned.lines there) above input))
      → IfOk result (λ len. after ≡ keys_of (begins_in zoned.lines there) above input ++ drop len before)
      → IfOk result (λ _. IsAboveAfter (begins_in zoned.lines there) above input later)
      → OnErr result (length before < length (keys_of (begins_in zoned.lines there) above input))
      → OnErr result (after ≡ take (length before) (keys_of (begins_in zoned.lines there) above input))
      → OnErr result (later ≡ above)
      → AreKeysWritten zoned above input before result later after
  keys_written (Ok len) above later before after counted written below longer full stays = record {
    begins = begins_in zoned.lines there;
    is_begin = record { there = there; is_zone = is; begins_is = refl };
    ok = λ n e. let same : len ≡ n = cc in subst (λ (m : ℕ). (m ≡ length (keys_of (begins_in zoned.lines there) above input)) × (after ≡ keys_of (begins_in zoned.lines there) above input ++ drop m before)) same (counted, written);
    below = λ n e. below;
    longer = λ fault e. absurd cc;
    stays = λ fault e. absurd cc;
  }
  keys_written (Err why) above later before after counted written below longer full stays = record {
    begins = begins_in zoned.lines there;
    is_begin = record { there = there; is_zone = is; begins_is = refl };
    ok = λ n e. absurd cc;
    below = λ n e. absurd cc;
    longer = λ fault e. (longer, full);
    stays = λ fault e. stays;
  }

  pub dates_written : (result : Result ℕ TooLittleRoom) (before after : List LineDate)
      → IfOk result (λ len. len ≡ length (lines input))
      → IfOk result (λ len. after ≡ dates_from (begins_in zoned.lines there) (lines input) ++ drop len before)
      → OnErr result (length before < length (lines input))
      → OnErr result (after ≡ take (length before) (dates_from (begins_in zoned.lines there) (lines input)))
      → AreDatesWritten zoned input before result after
  dates_written (Ok len) before after counted written longer full = record {
    begins = begins_in zoned.lines there;
    is_begin = record { there = there; is_zone = is; begins_is = refl };
    ok = λ n e. let same : len ≡ n = cc in subst (λ (m : ℕ). (m ≡ length (lines input)) × (after ≡ dates_from (begins_in zoned.lines there) (lines input) ++ drop m before)) same (counted, written);
    longer = λ fault e. absurd cc;
  }
  dates_written (Err why) before after counted written longer full = record {
    begins = begins_in zoned.lines there;
    is_begin = record { there = there; is_zone = is; begins_is = refl };
    ok = λ n e. absurd cc;
    longer = λ fault e. (longer, full);
  }
