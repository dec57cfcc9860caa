-- Bytes at which no date of a source begins.
use Rattle.std.proofs.Common.{◌≡◌, ◌<◌, ◌∙◌, ℕ, false, List, get_or, take, arith, refl}
use Rattle.std.specs.Char.{is_ascii_digit}
use Rattle.std.proofs.lemmas.List.{get_or-take}
use Rattle.parsing_item_layouts.specs.FirstBytes.{IsRefusedAt}
use Rattle.instants_prefixes.specs.NoPrefix.{begins_day, begins_year}
use Rattle.instants_prefixes.specs.Reading.{window, text_for}
use Rattle.instants_prefixes.proofs.NoneNamed.{described_none, day_none}
use Rattle.instants_prefixes.proofs.NoYear.{part_none}
use Rattle.instants_prefixes.proofs.Windows.{text_fails}
use Rattle.instants_sources.specs.Grammar.{Described, Rfc2822, Rfc3339, Iso8601, Written}
use Rattle.instants_sources.specs.Written.{reads_written}
use Rattle.instants_found.specs.Starts.{CannotStand}
use Rattle.instants_prefixes.proofs.RuledOut.{year_due}

pub described_cannot : (written : Written) (byte : ℕ) → IsRefusedAt (reads_written written) 0 byte → CannotStand 0 byte (Described written)
unfolding text_for
described_cannot written byte refused = λ bytes at given. described_none written (take window bytes) (refused (take window bytes) (get_or-take window bytes 0 0 (omega arith) ∙ at)) given

pub year_cannot : (byte : ℕ) → is_ascii_digit byte ≡ false → CannotStand 0 byte Rfc3339
year_cannot byte none = λ bytes at. year_due bytes 0 (omega arith) (rw at none)

pub day_cannot : (byte : ℕ) → begins_day byte ≡ false → CannotStand 0 byte Rfc2822
day_cannot byte none = λ bytes at given. day_none (text_for Rfc2822 bytes) (text_fails Rfc2822 bytes 0 begins_day refl (rw at none)) given

pub part_cannot : (byte : ℕ) → begins_year byte ≡ false → CannotStand 0 byte Iso8601
part_cannot byte none = λ bytes at given. part_none (text_for Iso8601 bytes) (text_fails Iso8601 bytes 0 begins_year refl (rw at none)) given
