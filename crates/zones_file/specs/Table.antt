-- The types and the transitions of a block, RFC 9636, section 3.2.
use Rattle.std.specs.Prelude.{ℕ, ◌+◌, ◌*◌, ◌==◌, ℤ, List, map, take, drop, slice_index, if◌then◌else◌}
use Rattle.std.specs.List.{range_with_len}
use Rattle.zones_clock.specs.declared.zone.Step.{Step}
use Rattle.zones_file.specs.declared.layout.Layout.{Layout}
use Rattle.zones_file.specs.declared.table.LocalType.{LocalType}
use Rattle.zones_file.specs.Bytes.{be_i32, be_i64}

-- a type's six bytes are its offset, whether it is summer time, and the place of its abbreviation
abbrev pub type_in : List ℕ → Layout → ℕ → LocalType
type_in bytes layout index = record {
  offset = be_i32 bytes (layout.types + index * 6);
  name = slice_index bytes (layout.types + index * 6 + 5);
}

-- a transition's instant, and its type
abbrev pub time_in : List ℕ → Layout → ℕ → ℤ
time_in bytes layout index = if layout.time_size == 4 then be_i32 bytes (layout.times + index * 4) else be_i64 bytes (layout.times + index * 8)

abbrev pub type_after : List ℕ → Layout → ℕ → LocalType
type_after bytes layout index = type_in bytes layout (slice_index bytes (layout.indexes + index))

-- a transition: from its instant on the clock is as its type says
abbrev pub step_in : List ℕ → Layout → ℕ → Step
step_in bytes layout index = record {
  from = time_in bytes layout index;
  offset = (type_after bytes layout index).offset;
  name = (type_after bytes layout index).name;
}

-- the first so many transitions
unfoldable pub steps_in : List ℕ → Layout → ℕ → List Step
steps_in bytes layout count = map (step_in bytes layout) (range_with_len 0 count)

-- the letters of the abbreviations
abbrev pub letters_in : List ℕ → Layout → List ℕ
letters_in bytes layout = take layout.letter_count (drop layout.letters bytes)
