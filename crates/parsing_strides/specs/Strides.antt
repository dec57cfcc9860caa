-- Whether strides were made for the parts of a layout.
use Rattle.std.specs.Prelude.{◌≡◌, ◌≤◌, ◌&&◌, ◌||◌, ◌==◌, ◌+◌, ◌-◌, ℕ, Bool, true, false, nat_lt, nat_le, List, [], ◌∷◌, get_or, length, take, drop}
use Rattle.parsing_layout.specs.Layout.{width}
use Rattle.parsing_layout.specs.declared.parts.Field.{Field}
use Rattle.parsing_layout.specs.declared.parts.Part.{Part}
use Rattle.parsing_layout.specs.Items.{all_certain, are_certain}
use Rattle.parsing_layout.specs.Said.{place_of, fields_of}
use Rattle.parsing_layout.specs.declared.items.Item.{Item}
use Rattle.parsing_layout.specs.declared.items.Item.TheVariants as item
use Rattle.parsing_layout.specs.declared.parts.Field.TheVariants as field
use Rattle.parsing_layout.specs.declared.parts.Part.TheVariants as part
use Rattle.parsing_strides.specs.Places.{lets}
use Rattle.parsing_strides.specs.declared.stride.Stride.{Stride}
use Rattle.parsing_strides.specs.declared.step.Step.{Step}
use Rattle.parsing_strides.specs.declared.step.Step.TheVariants as step
use Rattle.parsing_strides.specs.declared.strides.Strides.{Strides}

-- ---- what a stride takes

-- for a lane the byte at a place alone
abbrev pub takes_one : Stride → ℕ → ℕ → Bool
takes_one s lane at = nat_le 128 (get_or s.tens.lanes lane 0) && (get_or s.ones.lanes lane 0 == at)

-- for the number of a lane two digits, or one
abbrev pub takes_lane : Stride → ℕ → ℕ → ℕ → Bool
takes_lane s lane n at = nat_lt lane 14 && (lets s.low s.most at 48 9 && (((n == 2) && (lets s.low s.most (at + 1) 48 9 && ((get_or s.tens.lanes lane 0 == at) && (get_or s.ones.lanes lane 0 == at + 1)))) || ((n == 1) && takes_one s lane at)))

abbrev pub takes_digits : Stride → Field → ℕ → ℕ → Bool
takes_digits s field.Year n at = (n == 4) && (at == s.year)
takes_digits s f n at = takes_lane s (place_of f) n at

-- a part at a place: a sign is the byte itself
abbrev pub takes_part : Stride → Part → ℕ → Bool
takes_part s (part.Byte c) at = nat_lt c 256 && lets s.low s.most at c 0
takes_part s part.Any at = true
takes_part s (part.Digits f n) at = takes_digits s f n at
takes_part s part.Sign at = (get_or s.low at 0 == 0) && takes_one s 8 at
takes_part s other at = false

-- parts one after the other, and no byte after them
abbrev pub takes_all : Stride → List Part → ℕ → Bool
takes_all s [] at = at == s.length
takes_all s (p ∷ ps) at = nat_lt at s.length && (nat_le (width p) (s.length - at) && (takes_part s p at && takes_all s ps (at + width p)))

-- ---- and what it leaves as it is

abbrev pub keeps : Stride → Field → Bool
keeps s field.Year = s.year == 16
keeps s f = nat_le 14 (place_of f) || nat_le 128 (get_or s.ones.lanes (place_of f) 0)

-- of these fields all but those that parts say
abbrev pub keep_others : Stride → List Part → List Field → Bool
keep_others s ps [] = true
keep_others s ps (f ∷ fs) = (fields_of ps f || keeps s f) && keep_others s ps fs

-- the fields whose numbers a stride may read
abbrev pub read_fields : List Field
read_fields = field.Month ∷ field.Day ∷ field.Weekday ∷ field.Hour ∷ field.HourOfHalf ∷ field.Half ∷ field.Minute ∷ field.Second ∷ field.Sign ∷ field.OffsetHour ∷ field.OffsetMinute ∷ field.IsoWeek ∷ field.OrdinalTens ∷ field.OrdinalOnes ∷ field.Year ∷ []

-- the stride was made for the parts
abbrev pub fits_stride : Stride → List Part → Bool
fits_stride s ps = takes_all s ps 0 && keep_others s ps read_fields

-- ---- lists of steps

-- how many items a step reads
abbrev pub count_of : Step → ℕ
count_of (step.Part p) = 1
count_of (step.Optional b p) = 1
count_of (step.Stride s) = s.count

-- one item alone, or parts that a stride was made for
abbrev pub FitsStep : Step → List Item → Type 0
FitsStep (step.Part p) is = is ≡ item.Part p ∷ []
FitsStep (step.Optional b p) is = is ≡ item.Optional b p ∷ []
FitsStep (step.Stride s) is = (are_certain is ≡ true) × (fits_stride s (all_certain is) ≡ true)

abbrev pub AreMade : List Step → List Item → Type 0
AreMade [] is = is ≡ []
AreMade (s ∷ ss) is = (count_of s ≤ length is) × FitsStep s (take (count_of s) is) × AreMade ss (drop (count_of s) is)

-- the strides were made for the items
abbrev pub IsMade : Strides → List Item → Type 0
IsMade s is = AreMade (take s.count s.steps) is
