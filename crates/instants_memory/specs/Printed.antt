-- Entries as texts.
use Rattle.std.specs.Prelude.{◌≢◌, ℕ, ◌-◌, ◌==◌, List, [], ◌∷◌, ◌++◌, codes, nat_lt, slice_index_or, if◌then◌else◌, Result, Err, ℤ, pos, ◌+ℤ◌, ◌*ℤ◌, ⊤}
use Rattle.base.specs.Bytes.{line_feed}
use Rattle.datetime_wall.specs.Wall.{Shown, second_nanos, wall_at}
use Rattle.instants_answers.specs.Text.{moment_text}
use Rattle.instants_faults.specs.Refusal.{Refusal, component, range}
use Rattle.instants_memory.specs.Numbers.{name_number, names}
use Rattle.instants_memory.specs.declared.moments.Moment.{Moment}

-- the name with this number
unfoldable pub name_numbered : ℕ → List ℕ
name_numbered number = slice_index_or names (number - 1) []

-- the text of the fault with this number
unfoldable pub fault_text : ℕ → List ℕ
fault_text fault =
    if fault == 100 then codes "! literal"
    else if fault == 300 then codes "! trailing"
    else if fault == 400 then codes "! insufficient"
    else if fault == 600 then codes "! year"
    else if fault == 700 then codes "! long"
    else if nat_lt fault 300 then codes "! component " ++ name_numbered (fault - 200)
    else codes "! range " ++ name_numbered (fault - 500)

-- the text of an entry: its moment as it is shown at a target, or its fault
unfoldable pub entry_text : ℤ → Moment → List ℕ
entry_text target entry =
    if entry.fault == 0 then moment_text (record { wall = wall_at target (entry.seconds *ℤ pos second_nanos +ℤ pos entry.nanoseconds); offset = target })
    else fault_text entry.fault

-- the same and a line feed
abbrev pub entry_line : ℤ → Moment → List ℕ
entry_line target entry = entry_text target entry ++ line_feed ∷ []

-- where a place is a fault that names a component, the name has a number
abbrev pub HasNumber : Result Shown Refusal → Type 0
HasNumber (Err (component name)) = name_number name ≢ 0
HasNumber (Err (range name)) = name_number name ≢ 0
HasNumber place = ⊤
