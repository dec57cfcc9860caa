-- A text of ISO 8601, by its parts and by the record that it sets.
use Rattle.std.proofs.Common.{◌≡◌, ℕ, true, false, List, [], ◌∷◌, Option, Some, None, Result, Ok, Err, refl, ap, ◌∙◌, ℤ}
use Rattle.std.specs.Option.{IsSome}
use Rattle.std.specs.Result.{IsErr}
use Rattle.datetime_wall.specs.Wall.{Shown}
use Rattle.parsing_iso8601.specs.declared.written.Iso8601Parts.{Iso8601Parts}
use Rattle.parsing_iso8601.specs.declared.written.WrittenDate.{WrittenDate}
use Rattle.parsing_iso8601.specs.declared.written.WrittenDate.TheVariants.{OfMonth, OfYear, OfWeek}
use Rattle.parsing_iso8601.specs.declared.written.WrittenTime.{WrittenTime}
use Rattle.parsing_iso8601.specs.declared.written.WrittenOffset.{WrittenOffset}
use Rattle.parsing_iso8601.specs.Moment.{IsOfOffset}
use Rattle.parsing_iso8601.specs.Parts.{parts_of, offset_parts_of}
use Rattle.parsing_iso8601.specs.Parts as written
use Rattle.parsing_iso8601.specs.Reading as reading
use Rattle.parsing_values.specs.NamedMoment.{named_moment}
use Rattle.parsing_values.specs.declared.parts.MomentParts.{MomentParts}
use Rattle.parsing_combinator.specs.Fault.{Fault}
use Rattle.parsing_combinator.specs.Readings.{then_read, end, value_read}
use Rattle.parsing_record.specs.Parts.{moment_parts}
use Rattle.parsing_components.specs.declared.fields.Record.{Record}
use Rattle.parsing_record.specs.Whole.{starting, whole, names, all_read, moment_named}
use Rattle.parsing_parsable.specs.Put.{put_iso8601, put_date, put_time, put_offset}
use Rattle.parsing_parsable.specs.Staged.{reads_iso8601}
use Rattle.parsing_parsable.specs.Moment.{staged}
use Rattle.parsing_parsable.specs.TwoRoads.{holding}
use Rattle.parsing_parsable.proofs.RoadNumbers.{not_all, no_more}

-- the record before a text sets its parts
abbrev permitted : Option ℤ → Option ℤ → Record
permitted hour minute = record (holding hour minute) { leap_second_is_permitted = true }

abbrev parts : Option WrittenDate → Option WrittenTime → MomentParts
parts d t = record { date = written.date_parts d; time = written.time_parts t; leap_second_is_permitted = true; unix_nanoseconds = None }

-- a record with these parts, and an offset without seconds, that counts as it is written
record Laid (d : Option WrittenDate) (t : Option WrittenTime) (hour minute : Option ℤ) (r : Record) : Type 0 where
  parts : moment_parts r ≡ parts d t
  sign : r.offset_is_negative ≡ false
  hours : r.offset_hour ≡ hour
  minutes : r.offset_minute ≡ minute
  second : r.offset_second ≡ None

laid : (d : Option WrittenDate) (t : Option WrittenTime) (hour minute : Option ℤ) → Laid d t hour minute (put_time t (put_date d (permitted hour minute)))
laid (Some (OfMonth y m d)) (Some t) hour minute = record { parts = refl; sign = refl; hours = refl; minutes = refl; second = refl }
laid (Some (OfMonth y m d)) None hour minute = record { parts = refl; sign = refl; hours = refl; minutes = refl; second = refl }
laid d None hour minute = record { parts = refl; sign = refl; hours = refl; minutes = refl; second = refl }
laid d (Some t) hour minute = record { parts = refl; sign = refl; hours = refl; minutes = refl; second = refl }

-- an offset that is written
with_offset : (d : Option WrittenDate) (t : Option WrittenTime) (o : WrittenOffset) (hour minute : Option ℤ) (r : Record) → Laid d t hour minute r → moment_named (put_offset (Some o) r) ≡ named_moment (parts d t) (written.offset_parts (Some o))
with_offset d t o hour minute r l = rw (l.parts, l.sign, l.second, no_more o.second) refl

holding_named : (d : Option WrittenDate) (t : Option WrittenTime) (o : Option WrittenOffset) (hour minute : Option ℤ) → IsSome o → moment_named (put_offset o (put_time t (put_date d (permitted hour minute)))) ≡ named_moment (parts d t) (written.offset_parts o)
holding_named d t (Some o) hour minute some = with_offset d t o hour minute _ (laid d t hour minute)
holding_named d t None hour minute some = absurd (cc)

-- ---- whole texts

abbrev read_whole : Result (Iso8601Parts × List ℕ) Fault → Result (Iso8601Parts × List ℕ) Fault
read_whole r = then_read r (λ w rest. then_read (end rest) (λ _ last. Ok (w, last)))

abbrev parts_named : Iso8601Parts → Result Shown Fault
parts_named w = named_moment (parts_of w) (offset_parts_of w)

abbrev set_named : Record → Result (Iso8601Parts × List ℕ) Fault → Result Shown Fault
set_named defaults r = names moment_named (all_read (then_read r (λ w rest. Ok (put_iso8601 w defaults, rest))))

abbrev read_as : Iso8601Parts → Result Iso8601Parts Fault
read_as w = Ok w

same_written : (v w : Iso8601Parts) → read_as v ≡ read_as w → v ≡ w
same_written v w e = cc

holding_by_rest : (v : Iso8601Parts) (rest : List ℕ) (w : Iso8601Parts) (m : Shown) (hour minute : Option ℤ) → value_read (read_whole (Ok (v, rest))) ≡ Ok w → IsSome w.offset → parts_named w ≡ Ok m → set_named (holding hour minute) (Ok (v, rest)) ≡ Ok m
holding_by_rest v [] w m hour minute read some named = rw (same_written v w read) (holding_named w.date w.time w.offset hour minute some ∙ named)
holding_by_rest v (c ∷ cs) w m hour minute read some named = absurd (cc)

holding_by : (r : Result (Iso8601Parts × List ℕ) Fault) (w : Iso8601Parts) (m : Shown) (hour minute : Option ℤ) → value_read (read_whole r) ≡ Ok w → IsSome w.offset → parts_named w ≡ Ok m → set_named (holding hour minute) r ≡ Ok m
holding_by (Ok x) w m hour minute read some named = holding_by_rest x.0 x.1 w m hour minute read some named
holding_by (Err e) w m hour minute read some named = absurd (cc)

pub from_holding : (bytes : List ℕ) (m : Shown) → IsOfOffset bytes m → (hour minute : Option ℤ) → staged reads_iso8601 (holding hour minute) bytes ≡ Ok m
unfolding reading.whole whole reads_iso8601
from_holding bytes m h hour minute = holding_by (reading.iso8601 bytes) h.written m hour minute h.read h.offset h.named

-- what is not read wholly sets nothing, whatever was there before
unread_by_rest : (w : Iso8601Parts) (rest : List ℕ) (defaults : Record) → IsErr (value_read (read_whole (Ok (w, rest)))) → IsErr (set_named defaults (Ok (w, rest)))
unread_by_rest w [] defaults unread = absurd (cc)
unread_by_rest w (c ∷ cs) defaults unread = rw (not_all c cs) unread

unread_by : (r : Result (Iso8601Parts × List ℕ) Fault) (defaults : Record) → IsErr (value_read (read_whole r)) → IsErr (set_named defaults r)
unread_by (Ok x) defaults unread = unread_by_rest x.0 x.1 defaults unread
unread_by (Err e) defaults unread = unread

pub from_unread : (bytes : List ℕ) → IsErr (value_read (reading.whole bytes)) → (defaults : Option Record) → IsErr (names moment_named (whole reads_iso8601 defaults bytes))
unfolding reading.whole whole reads_iso8601
from_unread bytes unread defaults = unread_by (reading.iso8601 bytes) (starting defaults) unread
