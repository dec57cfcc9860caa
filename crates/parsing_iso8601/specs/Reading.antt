-- ISO 8601: a date, a time of day and an offset, each of which may be missing (ISO 8601-1:2019, 5.4).
use Rattle.std.specs.Prelude.{ℕ, ◌||◌, Bool, not, List, Result, Ok, Err, Option, Some, None, is_some, option_map, if◌then◌else◌, ℤ}
use Rattle.std.specs.Result.{is_ok}
use Rattle.parsing_combinator.specs.Fault.{Fault}
use Rattle.parsing_combinator.specs.Pieces.{Piece}
use Rattle.parsing_combinator.specs.Readings.{Reading, ◌>>=◌, ◌>>◌, give, end}
use Rattle.parsing_iso8601.specs.declared.kind.Kind.{Kind}
use Rattle.parsing_iso8601.specs.declared.kind.Kind.TheVariants.{Unknown}
use Rattle.parsing_iso8601.specs.declared.written.Iso8601Parts.{Iso8601Parts}
use Rattle.parsing_iso8601.specs.declared.written.WrittenDate.{WrittenDate}
use Rattle.parsing_iso8601.specs.declared.written.WrittenTime.{WrittenTime}
use Rattle.parsing_iso8601.specs.declared.written.WrittenOffset.{WrittenOffset}
use Rattle.parsing_iso8601.specs.Dates.{date_after, year_and_kind, refuse}
use Rattle.parsing_iso8601.specs.Times.{time}
use Rattle.parsing_iso8601.specs.Offsets.{offset}

-- the date or why there is none, and the kind that it hands on
abbrev pub Dated : Type 0
Dated = Result WrittenDate Fault × Kind

abbrev pub dated_as : Kind → Result (WrittenDate × List ℕ) Fault → Reading Dated
dated_as kind (Ok x) bytes = Ok ((Ok x.0, kind), x.1)
dated_as kind (Err f) bytes = Ok ((Err f, kind), bytes)

abbrev pub dated_from : Result ((ℤ × Kind) × List ℕ) Fault → Reading Dated
dated_from (Ok x) bytes = dated_as x.0.1 (date_after x.0.1 x.0.0 x.1) bytes
dated_from (Err f) bytes = Ok ((Err f, Unknown), bytes)

-- the date; a refused one reads nothing, but where its year was read the kind stays
unfoldable pub dated : Reading Dated
dated bytes = dated_from (year_and_kind bytes) bytes

abbrev pub or_nothing : {A : Type 0} → Option (A × List ℕ) → Reading (Option A)
or_nothing (Some x) bytes = Ok (Some x.0, x.1)
or_nothing None bytes = Ok (None, bytes)

-- a part that may be missing is read wholly, or nothing of it
abbrev pub maybe : {A : Type 0} → Piece A → Reading (Option A)
maybe part bytes = or_nothing (part bytes) bytes

-- the kind after the time
abbrev pub handed_on : Kind → Option (WrittenTime × Kind) → Kind
handed_on kind None = kind
handed_on kind (Some t) = t.1

-- an offset may stand alone or after a time, but not after a date without one
abbrev pub offset_after : Bool → Bool → Kind → Reading (Option WrittenOffset)
offset_after has_date has_time kind = if has_time || not has_date then maybe (offset kind) else give None

-- what was read; without any part, why there is no date
abbrev pub gathered : Result WrittenDate Fault → Option WrittenTime → Option WrittenOffset → Reading Iso8601Parts
gathered (Ok date) t o = give (record { date = Some date; time = t; offset = o })
gathered (Err f) None None = refuse f
gathered (Err f) None (Some o) = give (record { date = None; time = None; offset = Some o })
gathered (Err f) (Some t) o = give (record { date = None; time = Some t; offset = o })

-- the parts in their order; what the last one leaves is the rest
unfoldable pub iso8601 : Reading Iso8601Parts
iso8601 = do
  d ← dated
  t ← maybe (time d.1 (is_ok d.0))
  o ← offset_after (is_ok d.0) (is_some t) (handed_on d.1 t)
  gathered d.0 (option_map (λ x. x.0) t) o

-- the parts of a whole text: nothing follows them
unfoldable pub whole : Reading Iso8601Parts
whole = do
  w ← iso8601
  end
  give w
