-- The record that parts set, where all numbers are in their ranges.
use Rattle.std.proofs.Common.{◌≡◌, ◌≤◌, ◌*◌, ◌==◌, ◌||◌, ℕ, zero, suc, Bool, true, List, [], ◌∷◌, Option, Some, None, pos, refl, arith}
use Rattle.std.specs.Prelude.{nat_le, if◌then◌else◌}
use Rattle.std.specs.Int.{is_in_range}
use Rattle.std.specs.Option.{option_and_then}
use Rattle.std.proofs.lemmas.Bool.Decides.{nat_tests}
use Rattle.calendar_count.specs.declared.weekday.Weekday.{Weekday}
use Rattle.parsing_components.specs.Put.{put}
use Rattle.parsing_components.proofs.Entries.{month_with, there}
use Rattle.parsing_components.specs.Ranged.{between, counted, from_monday, nanoseconds_after_epoch}
use Rattle.parsing_components.specs.declared.said.Read.{Read}
use Rattle.parsing_components.specs.declared.fields.Record.{Record}
use Rattle.parsing_layout.specs.Layout.{Values, field_of}
use Rattle.parsing_layout.specs.declared.parts.Field.{Field}
use Rattle.parsing_layout.specs.declared.parts.Part.{Part}
use Rattle.parsing_item_parts.specs.Items.{said_by, set_all}
use Rattle.parsing_layout.specs.Said.{place_of}
use Rattle.parsing_layout.specs.Range.{least, most, AreInRange}
use Rattle.parsing_layout.specs.Said.{Said, is_of, fields_of}
use Rattle.parsing_item_parts.specs.Recorded.{recorded}

-- ---- what a number in its range says

within : (low high n : ℕ) (make : ℕ → Read) → low ≤ n → n ≤ high → between low high make n ≡ Some (make n)
within low high n make some few = let there : is_in_range low high n ≡ true = grind (arith, nat_tests) in rw there refl

weekday_with : (n : ℕ) → 1 ≤ n → n ≤ 7 → (w : Weekday) × (counted true from_monday n ≡ Some w)
weekday_with zero some few = absurd (omega (arith, some))
weekday_with (suc n) some few = there from_monday n (omega (arith, few))

few_hours : (n : ℕ) → n ≤ 25 → nat_le n 25 ≡ true
few_hours n few = grind (arith, nat_tests)

after_epoch : (n : ℕ) → n ≤ 9_999_999_999 → nat_le (n * 1_000_000_000) nanoseconds_after_epoch ≡ true
after_epoch n few = grind (arith, nat_tests)

-- ---- one part more

same : {A : Type 0} → (b : Bool) (x : A) → (if b then x else x) ≡ x
same b x = grind (arith, nat_tests)

abbrev Sets : List Part → Values → Said → Type 0
Sets ps v has = (r : Record) → set_all ps v r ≡ Some (recorded has v r)

-- what a part says is in its range
abbrev Within : Option Field → Values → Type 0
Within None v = Unit {0}
Within (Some f) v = (least f ≤ v f) × (v f ≤ most f)

-- where the others set theirs, a part and the others set the record of all
module _ (ps : List Part) (v : Values) (has : Said) (r : Record) (others : Sets ps v has) where
  goes : (o : Option Field) → Within o v → option_and_then (λ y. set_all ps v (put y r)) (said_by o v) ≡ Some (recorded (λ f. is_of f o || has f) v r)
  goes o d = grind (arith, nat_tests, within, pos, same, month_with, counted, weekday_with, few_hours, after_epoch)

or_true : (a b : Bool) → b ≡ true → (a || b) ≡ true
or_true a b e = grind (arith, nat_tests)

own : (f : Field) (b : Bool) → (is_of f (Some f) || b) ≡ true
own f b = let same : (place_of f == place_of f) ≡ true = grind (arith, nat_tests) in rw same refl

within_first : (o : Option Field) (others : Said) (v : Values) → AreInRange (λ f. is_of f o || others f) v → Within o v
within_first o others v range = grind (arith, nat_tests, own)

-- parts set the record of their fields
pub all_set : (ps : List Part) (v : Values) → AreInRange (fields_of ps) v → (r : Record) → set_all ps v r ≡ Some (recorded (fields_of ps) v r)
all_set [] v range r = refl
all_set (p ∷ ps) v range r =
    goes ps v (fields_of ps) r (all_set ps v (λ f e. range f (or_true (is_of f (field_of p)) (fields_of ps f) e))) (field_of p)
    (within_first (field_of p) (fields_of ps) v range)
