-- TZif, RFC 9636, section 3: where the parts of a file lie.
use Rattle.std.specs.Prelude.{◌≡◌, ◌⊎◌, ◌<◌, ◌≤◌, ℕ, ◌+◌, ◌*◌, ◌==◌, Bool, List, [], ◌∷◌, drop, nat_eq, slice_index, if◌then◌else◌}
use Rattle.std.specs.List.{starts_with}
use Rattle.zones_file.specs.declared.layout.Layout.{Layout}
use Rattle.zones_file.specs.declared.layout.Counts.{Counts}
use Rattle.zones_file.specs.Bytes.{be_u32}

-- a header begins `TZif` (section 3.1)
abbrev pub has_magic : List ℕ → ℕ → Bool
has_magic bytes place = starts_with nat_eq (drop place bytes) (84 ∷ 90 ∷ 105 ∷ 102 ∷ [])

-- a version, and fifteen bytes that say nothing, come before the counts (section 3.1)
abbrev pub counts_at : List ℕ → ℕ → Counts
counts_at bytes place = record {
  ut_flags = be_u32 bytes (place + 20);
  standard_flags = be_u32 bytes (place + 24);
  leap_seconds = be_u32 bytes (place + 28);
  steps = be_u32 bytes (place + 32);
  types = be_u32 bytes (place + 36);
  letters = be_u32 bytes (place + 40);
}

-- after the 44 bytes of a header come the instants, each of so many bytes, the number of each one's type, the types of six bytes each, the letters, the leap seconds and two rows of flags (sections 3.1 and 3.2)
abbrev pub indexes_of : Counts → ℕ → ℕ → ℕ
indexes_of counts place size = place + 44 + counts.steps * size

abbrev pub types_of : Counts → ℕ → ℕ → ℕ
types_of counts place size = indexes_of counts place size + counts.steps

abbrev pub letters_of : Counts → ℕ → ℕ → ℕ
letters_of counts place size = types_of counts place size + counts.types * 6

abbrev pub flags_of : Counts → ℕ → ℕ → ℕ
flags_of counts place size = letters_of counts place size + counts.letters + counts.leap_seconds * (size + 4)

abbrev pub layout_of : Counts → ℕ → ℕ → Layout
layout_of counts place size = record {
  time_size = size;
  times = place + 44;
  step_count = counts.steps;
  indexes = indexes_of counts place size;
  types = types_of counts place size;
  type_count = counts.types;
  letters = letters_of counts place size;
  letter_count = counts.letters;
  end = flags_of counts place size + counts.standard_flags + counts.ut_flags;
}

-- the block that counts: the only one of version 1, with instants of four bytes, and else the second, with instants of eight (section 3)
abbrev pub is_version_one : List ℕ → Bool
is_version_one bytes = slice_index bytes 4 == 0

abbrev pub time_size : List ℕ → ℕ
time_size bytes = if is_version_one bytes then 4 else 8

abbrev pub data_place : List ℕ → ℕ
data_place bytes = if is_version_one bytes then 0 else (layout_of (counts_at bytes 0) 0 4).end

unfoldable pub data_layout : List ℕ → Layout
data_layout bytes = layout_of (counts_at bytes (data_place bytes)) (data_place bytes) (time_size bytes)

abbrev pub IsTimeSize : ℕ → Type 0
IsTimeSize size = (size ≡ 4) ⊎ (size ≡ 8)

-- its parts lie one after the other within so many bytes, and there are a type and a letter
pub record IsLaidOut (layout : Layout) (len : ℕ) : Type 0 where
  pub size : IsTimeSize layout.time_size
  pub indexes : layout.indexes ≡ layout.times + layout.step_count * layout.time_size
  pub types : layout.types ≡ layout.indexes + layout.step_count
  pub letters : layout.letters ≡ layout.types + layout.type_count * 6
  pub some : 0 < layout.type_count
  pub within : layout.letters + layout.letter_count ≤ layout.end
  pub whole : layout.end ≤ len
  pub short : len ≤ 65_536
