-- Reading all of the bytes, and the values that they name.
use Rattle.std.specs.Prelude.{◌≡◌, ℕ, ℤ, false, List, Option, Some, None, Result, Ok, Err, length, ◌==◌, if◌then◌else◌}
use Rattle.std.specs.Borrow.{Bor}
use Rattle.datetime_wall.specs.Wall.{Shown}
use Rattle.parsing_combinator.specs.Fault.{Fault, trailing}
use Rattle.parsing_combinator.specs.FaultOf.{Gives, fault_of, resolution_fault}
use Rattle.parsing_combinator.specs.declared.fault.Parse.{Parse}
use Rattle.parsing_combinator.specs.declared.fault.TryFromParsed.{TryFromParsed}
use Rattle.parsing_values.specs.NamedDate.{named_date}
use Rattle.parsing_values.specs.NamedTime.{named_time, named_offset}
use Rattle.parsing_values.specs.NamedMoment.{named_wall, named_moment, named_utc, named_timestamp}
use Rattle.parsing_components.specs.declared.fields.Record.{Record}
use Rattle.parsing_components.specs.Record.{empty}
use Rattle.parsing_components.specs.Parts.{date_parts, time_parts, offset_parts, moment_parts}
use Rattle.parsing_components.specs.Meaning.{Answer, Meaning}

-- the rest and the record after it, or the fault and the record unchanged
abbrev pub ReadsInto : Result (Bor (List ℕ)) Parse → Record → Record → Answer → Type 0
ReadsInto (Ok rest) old new read = read ≡ Ok (new, rest.now)
ReadsInto (Err e) old new read = (read ≡ Err (fault_of e)) × (new ≡ old)

-- a reading begins with the defaults, or with a record without any field
abbrev pub starting : Option Record → Record
starting None = empty
starting (Some r) = r

-- nothing may follow
abbrev pub ended : Record → List ℕ → Result Record Fault
ended r rest = if length rest == 0 then Ok r else Err trailing

abbrev pub all_read : Answer → Result Record Fault
all_read (Ok x) = ended x.0 x.1
all_read (Err f) = Err f

-- the record of all of the bytes
unfoldable pub whole : Meaning → Option Record → List ℕ → Result Record Fault
whole m defaults bytes = all_read (m (starting defaults) bytes)

-- what the record of all of the bytes names
abbrev pub names : {A : Type 0} → (Record → Result A Fault) → Result Record Fault → Result A Fault
names value (Ok r) = value r
names value (Err f) = Err f

-- ---- the values that a record names

abbrev pub date_named : Record → Result ℕ Fault
date_named r = named_date (date_parts r)

abbrev pub time_named : Record → Result ℕ Fault
time_named r = named_time false (time_parts r)

abbrev pub offset_named : Record → Result ℤ Fault
offset_named r = named_offset (offset_parts r)

abbrev pub wall_named : Record → Result ℤ Fault
wall_named r = named_wall false (date_parts r) (time_parts r)

abbrev pub moment_named : Record → Result Shown Fault
moment_named r = named_moment (moment_parts r) (offset_parts r)

-- by a reading of its own where there are no defaults, and else by a record
abbrev pub by_roads : (List ℕ → Result Shown Fault) → Meaning → Option Record → List ℕ → Result Shown Fault
by_roads direct m None bytes = direct bytes
by_roads direct m (Some defaults) bytes = names moment_named (whole m (Some defaults) bytes)

abbrev pub utc_named : Record → Result ℤ Fault
utc_named r = named_utc (moment_parts r) (offset_parts r)

abbrev pub timestamp_named : Record → Result ℤ Fault
timestamp_named r = named_timestamp (moment_parts r) (offset_parts r)

-- what is given is such a value of a record, or why it names none
abbrev pub Names : {A : Type 0} → (Record → Result A Fault) → Record → Result A TryFromParsed → Type 0
Names value r given = Gives (λ v. v) resolution_fault given (value r)
