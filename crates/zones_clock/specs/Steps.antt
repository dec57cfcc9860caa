-- A clock whose distance from UTC changes in steps.
use Rattle.std.specs.Prelude.{◌≡◌, ℕ, zero, suc, ◌<◌, ◌+◌, ◌&&◌, ◌||◌, Bool, false, ℤ, pos, negsuc, ◌<ℤ◌, int_lt, nat_le, get_or, length, List, [], ◌∷◌, if◌then◌else◌, drop, not, ◌==◌, bytes_eq}
use Rattle.std.specs.List.{list_any, range_with_len, take_while}
use Rattle.zones_clock.specs.declared.zone.Step.{Step}

-- an offset is less than 26 hours, on either side
abbrev pub IsOffset : ℤ → Type 0
IsOffset offset = (negsuc 93_599 <ℤ offset) × (offset <ℤ pos 93_600)

-- a reading of a clock lies within some thirty million years of 1970
abbrev pub IsReading : ℤ → Type 0
IsReading reading = (negsuc 999_999_999_999_999 <ℤ reading) × (reading <ℤ pos 1_000_000_000_000_000)

-- what stands in past the end
abbrev pub no_step : Step
no_step = record { from = pos 0; offset = pos 0; name = 0 }

abbrev pub step_at : List Step → ℕ → Step
step_at steps i = get_or steps i no_step

-- each step begins before the next
abbrev pub InOrder : List Step → Type 0
InOrder steps = (i : ℕ) → i + 1 < length steps → (step_at steps i).from <ℤ (step_at steps (i + 1)).from

-- an instant comes after the last step
abbrev pub ComesAfter : List Step → ℤ → Type 0
ComesAfter steps from = (i : ℕ) → i + 1 ≡ length steps → (step_at steps i).from <ℤ from

-- each offset is one
abbrev pub AreOffsets : List Step → Type 0
AreOffsets steps = (i : ℕ) → i < length steps → IsOffset (step_at steps i).offset

-- how far the clock is ahead of UTC at a moment: as before, until the first step, and from then on as that step says, until the next
unfoldable pub offset_at : ℤ → List Step → ℤ → ℤ
offset_at offset [] moment = offset
offset_at offset (step ∷ steps) moment = if int_lt moment step.from then offset else offset_at step.offset steps moment

-- the offset after so many steps
abbrev pub offset_after : ℤ → List Step → ℕ → ℤ
offset_after offset steps zero = offset
offset_after offset steps (suc count) = (step_at steps count).offset

-- the place of the abbreviation at a moment, likewise
unfoldable pub name_place_at : ℕ → List Step → ℤ → ℕ
name_place_at name [] moment = name
name_place_at name (step ∷ steps) moment = if int_lt moment step.from then name else name_place_at step.name steps moment

abbrev pub name_place_after : ℕ → List Step → ℕ → ℕ
name_place_after name steps zero = name
name_place_after name steps (suc count) = (step_at steps count).name

-- the abbreviation at a place: the letters from there up to the next byte 0, or up to the end
abbrev pub name_in : List ℕ → ℕ → List ℕ
name_in letters place = take_while (λ byte. not (byte == 0)) (drop place letters)

-- a word is one of the zone's abbreviations, which have three bytes or more: it is that of a place (RFC 9636, section 3.2)
unfoldable pub is_name : List ℕ → List ℕ → Bool
is_name letters word = nat_le 3 (length word) && list_any (λ place. bytes_eq (name_in letters place) word) (range_with_len 0 (length letters))

-- letters have a byte
abbrev pub has_byte : List ℕ → ℕ → Bool
has_byte letters byte = list_any (λ letter. letter == byte) letters

-- just the bytes that letters have are marked, each at its number
abbrev pub HasBytes : List Bool → List ℕ → Type 0
HasBytes marks letters = (byte : ℕ) → get_or marks byte false ≡ has_byte letters byte

-- the bytes of letters are marked beside those that were
abbrev pub AreMarked : List Bool → List ℕ → List Bool → Type 0
AreMarked old letters new = (byte : ℕ) → get_or new byte false ≡ (get_or old byte false || has_byte letters byte)
