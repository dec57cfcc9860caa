-- What is wrong with a file: the first of the faults that it has, in the order in which a reader comes to them.
use Rattle.std.specs.Prelude.{◌≡◌, ◌⊎◌, ℤ, pos, negsuc, int_lt, Result, MatchResult, ℕ, ◌+◌, ◌-◌, ◌==◌, ◌&&◌, ◌||◌, not, nat_lt, nat_le, Bool, true, false, List, [], ◌∷◌, length, map, slice_index, Option, Some, None}
use Rattle.std.specs.List.{range_with_len}
use Rattle.std.specs.Option.{option_or, is_none}
use Rattle.std.specs.Ordering.{int_eq}
use Rattle.zones_clock.specs.declared.zone.Step.{Step}
use Rattle.zones_clock.specs.Steps.{offset_at}
use Rattle.zones_rule.specs.declared.rule.Rule.{Rule}
use Rattle.zones_rule.specs.Grammar.{rule_of}
use Rattle.zones_rule.specs.Transitions.{is_in_order, offset_by_rule}
use Rattle.zones_file.specs.declared.fault.ZoneFault.{ZoneFault}
use Rattle.zones_file.specs.declared.fault.ZoneFault.TheVariants.{Long, Header, Version, Length, LeapSeconds, UnknownType, Offset, Order, Footer, Crossing, Disagrees, Memory}
use Rattle.zones_file.specs.declared.layout.Layout.{Layout}
use Rattle.zones_file.specs.declared.layout.Counts.{Counts}
use Rattle.zones_file.specs.Layout.{has_magic, counts_at, data_place, data_layout}
use Rattle.zones_file.specs.Table.{type_in, time_in}
use Rattle.zones_file.specs.Footer.{footer_text}
use Rattle.zones_file.specs.Zone.{last_moment, first_type, table_steps, footer_of_file}

-- a fault where a test holds
abbrev pub when : Bool → ZoneFault → Option ZoneFault
when true fault = Some fault
when false fault = None

-- the fault is told, or that there is no memory
abbrev pub Tells : {A : Type 0} → Result A ZoneFault → Option ZoneFault → Type 0
Tells result fault = MatchResult result (λ _. fault ≡ None) (λ told. (told ≡ Memory) ⊎ (fault ≡ Some told))

-- the first of several
abbrev pub first_of : List (Option ZoneFault) → Option ZoneFault
first_of [] = None
first_of (fault ∷ faults) = option_or fault (first_of faults)

-- no header begins there (section 3.1)
unfoldable pub header_fault : List ℕ → ℕ → Option ZoneFault
header_fault bytes place = first_of (when (nat_lt (length bytes) (place + 44)) Length ∷ when (not (has_magic bytes place)) Header ∷ [])

-- the version is not 1, which is a byte 0, nor `2` to `4` (section 3.1)
unfoldable pub version_fault : List ℕ → Option ZoneFault
version_fault bytes = when (not ((slice_index bytes 4 == 0) || (nat_le 50 (slice_index bytes 4) && nat_le (slice_index bytes 4) 52))) Version

-- the file is too long, or a header is missing
unfoldable pub start_fault : List ℕ → Option ZoneFault
start_fault bytes = first_of (when (nat_lt 65_536 (length bytes)) Long ∷ header_fault bytes 0 ∷ version_fault bytes ∷ header_fault bytes (data_place bytes) ∷ [])

-- a row of flags has one for each type, or none (section 3.1)
abbrev pub is_no_row : ℕ → ℕ → Bool
is_no_row flags types = nat_lt 0 flags && not (flags == types)

-- there are leap seconds, or no type or no letter (section 3.1)
unfoldable pub counts_fault : Counts → Option ZoneFault
counts_fault counts = first_of (
    when (nat_lt 0 counts.leap_seconds) LeapSeconds
    ∷ when ((counts.types == 0) || (counts.letters == 0)) Header
    ∷ when (is_no_row counts.ut_flags counts.types) Header
    ∷ when (is_no_row counts.standard_flags counts.types) Header
    ∷ [])

-- the block is cut off, or its last abbreviation does not end with a 0 (section 3.2)
unfoldable pub block_fault : List ℕ → Layout → Option ZoneFault
block_fault bytes layout = first_of (when (nat_lt (length bytes) layout.end) Length ∷ when (not (slice_index bytes (layout.letters + layout.letter_count - 1) == 0)) Header ∷ [])

unfoldable pub layout_fault : List ℕ → Option ZoneFault
layout_fault bytes = first_of (start_fault bytes ∷ counts_fault (counts_at bytes (data_place bytes)) ∷ block_fault bytes (data_layout bytes) ∷ [])

-- an offset is less than 26 hours, on either side
abbrev pub is_offset : ℤ → Bool
is_offset offset = int_lt (negsuc 93_599) offset && int_lt offset (pos 93_600)

-- a type is not there, nor its abbreviation, or its offset is none
unfoldable pub type_fault : List ℕ → Layout → ℕ → Option ZoneFault
type_fault bytes layout index = first_of (
    when (nat_le layout.type_count index) UnknownType
    ∷ when (nat_le layout.letter_count (type_in bytes layout index).name) UnknownType
    ∷ when (not (is_offset (type_in bytes layout index).offset)) Offset
    ∷ [])

-- a transition comes after the one before it, if there is one
abbrev pub is_after : List ℕ → Layout → ℕ → Bool
is_after bytes layout index = (index == 0) || int_lt (time_in bytes layout (index - 1)) (time_in bytes layout index)

unfoldable pub step_fault : List ℕ → Layout → ℕ → Option ZoneFault
step_fault bytes layout index = first_of (type_fault bytes layout (slice_index bytes (layout.indexes + index)) ∷ when (not (is_after bytes layout index)) Order ∷ [])

-- of so many transitions from one on, and of a table: of its first type and its transitions
abbrev pub steps_fault : List ℕ → Layout → ℕ → ℕ → Option ZoneFault
steps_fault bytes layout from count = first_of (map (step_fault bytes layout) (range_with_len from count))

unfoldable pub table_fault : List ℕ → Layout → Option ZoneFault
table_fault bytes layout = option_or (type_fault bytes layout 0) (steps_fault bytes layout 0 layout.step_count)

-- there is no footer, or a text in it that is no rule (section 3.3)
abbrev pub text_fault : Option (List ℕ) → Option ZoneFault
text_fault None = Some Footer
text_fault (Some []) = None
text_fault (Some (byte ∷ text)) = when (is_none (rule_of (byte ∷ text))) Footer

-- a rule's years cross, or by it the clock has another offset at a moment (section 3.3)
unfoldable pub rule_fault : Rule → ℤ → ℤ → Option ZoneFault
rule_fault rule moment offset = first_of (when (not (is_in_order rule.standard rule.summer)) Crossing ∷ when (not (int_eq (offset_by_rule rule moment) offset)) Disagrees ∷ [])

abbrev pub footer_fault : ℤ → List Step → Option (Rule × List ℕ × List ℕ) → Option ZoneFault
footer_fault first steps None = None
footer_fault first steps (Some (rule, standard, summer)) = rule_fault rule (last_moment steps) (offset_at first steps (last_moment steps))

-- the first fault of a file, if it has any
unfoldable pub fault_of : List ℕ → Option ZoneFault
fault_of bytes = first_of (
    layout_fault bytes
    ∷ table_fault bytes (data_layout bytes)
    ∷ text_fault (footer_text bytes (data_layout bytes))
    ∷ footer_fault (first_type bytes).offset (table_steps bytes) (footer_of_file bytes)
    ∷ [])
