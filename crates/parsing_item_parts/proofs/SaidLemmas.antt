-- What a text says by items, from what has to be there and what may be.
use Rattle.std.proofs.Common.{◌≡◌, ◌∙◌, ◌<◌, ◌||◌, ℕ, Bool, true, false, List, [], ◌∷◌, refl, sym, arith}
use Rattle.parsing_layout.specs.Items.{SaysItem, SaysItems, certain, possible, all_certain, all_possible}
use Rattle.parsing_layout.specs.Layout.{Values}
use Rattle.parsing_layout.specs.declared.parts.Field.{Field}
use Rattle.parsing_layout.specs.Range.{most, IsAllInRange}
use Rattle.parsing_layout.specs.Said.{Said, fields_of}
use Rattle.parsing_layout.specs.declared.items.Item.{Item}
use Rattle.parsing_layout.specs.declared.parts.Part.{Part}
use Rattle.parsing_layout.specs.declared.parts.Field.TheVariants as field
use Rattle.parsing_strides.specs.Found.{values_in}
use Rattle.parsing_strides.proofs.StepLemmas.{said_by_both}
use Rattle.parsing_item_parts.specs.Listed.{IsWay, items_listed}
use Rattle.parsing_item_parts.specs.Recorded.{said_or}
use Rattle.parsing_item_parts.specs.declared.listed.Listed.{Listed}
use Rattle.std.proofs.lemmas.Bool.Decides.{nat_tests}

-- ---- what has to be there is, and what can't be is not

or_more : (a b c d : Bool) → (a ≡ true → c ≡ true) → (b ≡ true → d ≡ true) → (a || b) ≡ true → (c || d) ≡ true
or_more a b c d first second e = grind (arith, nat_tests)

or_less : (a b c d : Bool) → (a ≡ false → c ≡ false) → (b ≡ false → d ≡ false) → (a || b) ≡ false → (c || d) ≡ false
or_less a b c d first second e = grind (arith, nat_tests)

first_certain : (i : Item) (line : List ℕ) (v : Values) (rest : List ℕ) (way : List Part) (f : Field) → SaysItem i line v rest way
    → fields_of (certain i) f ≡ true → fields_of way f ≡ true
first_certain i line v rest way f there e = grind (arith, nat_tests)

first_possible : (i : Item) (line : List ℕ) (v : Values) (rest : List ℕ) (way : List Part) (f : Field) → SaysItem i line v rest way
    → fields_of (possible i) f ≡ false → fields_of way f ≡ false
first_possible i line v rest way f there e = grind (arith, nat_tests)

pub certainly : (is : List Item) (line : List ℕ) (v : Values) (rest : List ℕ) (way : List Part) (f : Field) → SaysItems is line v rest way
    → fields_of (all_certain is) f ≡ true → fields_of way f ≡ true
certainly [] line v rest way f says e = absurd cc
certainly (i ∷ is) line v rest way f says e =
    rw (says.3, said_by_both says.1 says.2 f)
    (or_more (fields_of (certain i) f) (fields_of (all_certain is) f) _ _ (first_certain i line v says.0 says.1 f says.4) (certainly is says.0 v rest says.2 f says.5) (sym (said_by_both (certain i) (all_certain is) f) ∙ e))

pub possibly : (is : List Item) (line : List ℕ) (v : Values) (rest : List ℕ) (way : List Part) (f : Field) → SaysItems is line v rest way
    → fields_of (all_possible is) f ≡ false → fields_of way f ≡ false
possibly [] line v rest way f says e = rw says.0 refl
possibly (i ∷ is) line v rest way f says e =
    rw (says.3, said_by_both says.1 says.2 f)
    (or_less (fields_of (possible i) f) (fields_of (all_possible is) f) _ _ (first_possible i line v says.0 says.1 f says.4) (possibly is says.0 v rest says.2 f says.5) (sym (said_by_both (possible i) (all_possible is) f) ∙ e))

-- ---- a number that is in its range was read, where it was out of it before

must : (b : Bool) → (b ≡ false → ⊥) → b ≡ true
must b never = grind (arith, nat_tests)

is_read : (l : Listed) (has : Said) (v : Values) (f : Field) → IsWay l has v → IsAllInRange v → most f < values_in l.unread f → has f ≡ true
is_read l has v f way range out = must (has f) (λ none. let few = (range f).1 in let kept = way.unread f none in omega (arith, out, few, kept))

-- parts that say a day and a minute, and no second of a minute that they don't say
pub record SayDay (has : Said) : Type 0 where
  pub year : has field.Year ≡ true
  pub month : has field.Month ≡ true
  pub day : has field.Day ≡ true
  pub minute : has field.Minute ≡ true
  pub unix : has field.Unix ≡ false
  pub finer : has field.Second ≡ false → has field.Nanosecond ≡ false

-- a second that is not said is one that can't be
no_second : (l : Listed) (has : Said) (v : Values) (b : Bool) → l.kind.is_unix ≡ false → IsWay l has v → IsAllInRange v → l.kind.has_second ≡ b
    → has field.Second ≡ false → l.kind.has_second ≡ false
no_second l has v b dated way range is none = grind (arith, nat_tests, is_read)

pub day_said : (l : Listed) (has : Said) (v : Values) → l.kind.is_unix ≡ false → IsWay l has v → IsAllInRange v → SayDay has
day_said l has v dated way range = grind (arith, nat_tests, certain, is_read, possible, no_second)

-- ---- of the hour and the offset

pub whole_hour : (l : Listed) (has : Said) (v : Values) → l.kind.is_unix ≡ false → IsWay l has v → IsAllInRange v → l.kind.is_half ≡ false
    → has field.Hour ≡ true
whole_hour l has v dated way range is = is_read l has v field.Hour way range ((l.out_of_range dated).hour is)

pub record SayHalf (has : Said) : Type 0 where
  pub none : has field.Hour ≡ false
  pub hour : has field.HourOfHalf ≡ true
  pub half : has field.Half ≡ true

pub half_hour : (l : Listed) (has : Said) (v : Values) → l.kind.is_unix ≡ false → IsWay l has v → IsAllInRange v → l.kind.is_half ≡ true
    → SayHalf has
half_hour l has v dated way range is = grind (arith, nat_tests, possible, is_read)

pub written : (l : Listed) (has : Said) (v : Values) → l.kind.is_unix ≡ false → IsWay l has v → IsAllInRange v → l.kind.has_offset ≡ true
    → (has field.OffsetHour ≡ true) × (has field.OffsetMinute ≡ true)
written l has v dated way range is = grind (arith, nat_tests, is_read)

pub unwritten : (l : Listed) (has : Said) (v : Values) → l.kind.is_unix ≡ false → IsWay l has v → l.kind.has_offset ≡ false
    → (has field.OffsetHour ≡ false) × (has field.OffsetMinute ≡ false)
unwritten l has v dated way is =
    let s = l.dated dated in (way.possible field.OffsetHour (s.offset_hour is), way.possible field.OffsetMinute (s.offset_minute is))

-- ---- what is 0 where it is not said

zero_or : (b : Bool) (has : Said) (v : Values) (f : Field) → has f ≡ b → (b ≡ false → v f ≡ 0) → v f ≡ said_or has v f 0
zero_or b has v f is none = grind (arith, nat_tests)

pub second_said : (l : Listed) (has : Said) (v : Values) → l.kind.is_unix ≡ false → IsWay l has v → IsAllInRange v
    → v field.Second ≡ said_or has v field.Second 0
second_said l has v dated way range = grind (arith, nat_tests, zero_or, no_second)

pub no_fraction : (l : Listed) (has : Said) (v : Values) → IsWay l has v → has field.Nanosecond ≡ false → v field.Nanosecond ≡ 0
no_fraction l has v way none = way.unread field.Nanosecond none ∙ l.no_fraction

pub fraction_said : (l : Listed) (has : Said) (v : Values) → IsWay l has v → v field.Nanosecond ≡ said_or has v field.Nanosecond 0
fraction_said l has v way = zero_or (has field.Nanosecond) has v field.Nanosecond refl (no_fraction l has v way)

-- ---- what is read of a line

pub way_of : (l : Listed) (line : List ℕ) (v : Values) (rest : List ℕ) (way : List Part) → SaysItems (items_listed l) line v rest way
    → ((f : Field) → fields_of way f ≡ false → v f ≡ values_in l.unread f) → IsWay l (fields_of way) v
way_of l line v rest way says kept = grind (arith, nat_tests, certain, certainly, items_listed, possible, possibly)
