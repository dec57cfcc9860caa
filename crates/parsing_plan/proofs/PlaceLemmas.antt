-- The fields of places name what the items read.
use Rattle.std.proofs.Common.{◌≡◌, ◌≤◌, ◌<◌, ◌+◌, ◌-◌, ℕ, true, false, List, get_or, length, drop, Option, Some, None, refl, sym, ◌∙◌, ℤ}
use Rattle.std.specs.Prelude.{IfSome, is_some, not}
use Rattle.parsing_combinator.specs.Pieces.{digits}
use Rattle.parsing_components.specs.Meaning.{Meaning}
use Rattle.parsing_components.specs.Prefix.{NamesPrefix, beginning}
use Rattle.parsing_values.specs.Moment.{moment_of}
use Rattle.parsing_combinator.specs.Written.{WriteFraction}
use Rattle.parsing_values.specs.declared.fields.Fields.{Fields}
use Rattle.parsing_item_parts.specs.Items.{parts_kept}
use Rattle.parsing_item_parts.proofs.ReadingLemmas.{prefix_named}
use Rattle.parsing_shapes.specs.Moment.{AreTaken}
use Rattle.parsing_layout.specs.Said.{fields_of}
use Rattle.parsing_shapes.specs.Sums.{AreSums}
use Rattle.parsing_plan.specs.Fields.{AreFieldsOf}
use Rattle.parsing_plan.specs.Places.{ArePlacesOf}
use Rattle.parsing_plan.specs.declared.places.Back.{Back}
use Rattle.parsing_plan.specs.declared.places.Places.{Places}
use Rattle.parsing_plan.proofs.FieldLemmas.{values, front_said, in_range, names_moment, neither}
use Rattle.parsing_shapes.specs.declared.front.Beside.{Beside}
use Rattle.parsing_layout.proofs.TestLemmas.{both, is_not}
use Rattle.parsing_plan.specs.Parts.{are_numbers, is_plain}
use Rattle.parsing_plan.proofs.SplitLemmas.{no_place, split_said, sums}

-- all parts have fixed widths
pub whole_read : (p : Places) (line : List ℕ) (d m o t : ℕ) (x : AreSums p.front.shape line d m o t) → ((k : ℕ) → get_or line k 0 < 256) → p.front.shape.length ≤ length line → (assumed : Option ℤ) (fs : Option Fields) → p.back ≡ None
    → IfSome fs (AreFieldsOf p.front.shape p.front.beside line d m o t None assumed) → (meaning : Meaning) → ArePlacesOf meaning p → IfSome fs (λ f. NamesPrefix meaning (beginning assumed) line (drop p.front.shape.length line) (moment_of f))
whole_read p line d m o t x small long assumed None alone y meaning is = tt
whole_read p line d m o t x small long assumed (Some f) alone y meaning is =
    let s = p.front.shape in
    let b = p.front.beside in
    let ps = parts_kept p.parts in
    let v = values s b line d m o t x small long None assumed f y in
    prefix_named meaning ps v assumed line (drop s.length line) (moment_of f) is
    (front_said s b line d m o t x small long None assumed f y (λ n e. absurd cc) ps (p.whole alone))
    (in_range s b line d m o t x small long None assumed f y p.back (fields_of ps) p.says)
    (names_moment s b line d m o t x small long None assumed f y p.back (fields_of ps) p.says (λ e. refl))

some_back : (o : Option Back) (back : Back) → o ≡ Some back → is_some o ≡ true
some_back o back e = rw e refl

-- a fraction of any number of digits is among them
pub split_read : (p : Places) (back : Back) (line : List ℕ) (end count d m o t nanosecond : ℕ) → ((k : ℕ) → get_or line k 0 < 256) → (is_back : p.back ≡ Some back) (x : AreTaken p.front.shape back.last.window line end d m o t) → p.front.shape.length + count + back.last.length ≡ end → 16 ≤ end → end ≤ length line → 0 < count → count ≤ 9
    → (back.last.length ≡ 0 → digits 1 (drop end line) ≡ None) → WriteFraction (drop (end - back.last.length - count) line) count nanosecond → p.front.shape.length ≤ length line → (assumed : Option ℤ) (fs : Option Fields) → IfSome fs (AreFieldsOf p.front.shape p.front.beside line d m o t (Some nanosecond) assumed)
    → (meaning : Meaning) → ArePlacesOf meaning p → IfSome fs (λ f. NamesPrefix meaning (beginning assumed) line (drop end line) (moment_of f))
split_read p back line end count d m o t nanosecond small is_back x all sixteen within some few ends written long assumed None y meaning is = tt
split_read p back line end count d m o t nanosecond small is_back x all sixteen within some few ends written long assumed (Some f) y meaning is =
    let s = p.front.shape in
    let b = p.front.beside in
    let ps = parts_kept p.parts in
    let split = p.split back is_back in
    let z = sums p.front back.count back.last ps split line end count d m o t nanosecond small x in
    let v = values s b line d m o t z small long (Some nanosecond) assumed f y in
    prefix_named meaning ps v assumed line (drop end line) (moment_of f) is
    (split_said p.front back.count back.last ps split line end count d m o t nanosecond small x all sixteen within some few ends written assumed f y)
    (in_range s b line d m o t z small long (Some nanosecond) assumed f y p.back (fields_of ps) p.says)
    (names_moment s b line d m o t z small long (Some nanosecond) assumed f y p.back (fields_of ps) p.says (λ e. absurd (let bad : true ≡ false = sym (some_back p.back back is_back) ∙ e in cc)))

-- ---- places of plain lines

pub plain_beside : (b : Beside) → is_plain b ≡ true → record { month = b.month; day = None; weekday = None; fraction = None; has_offset = true } ≡ b
plain_beside b e =
    let offset = both b.has_offset _ e in
    let month = both (is_some b.month) _ offset.1 in
    let day = neither (is_some b.day) _ (is_not _ month.1) in
    let weekday = neither (is_some b.weekday) (is_some b.fraction) day.1 in
    rw (offset.0, no_place b.day day.0, no_place b.weekday weekday.0, no_place b.fraction weekday.1) refl

pub number_beside : (b : Beside) → are_numbers b ≡ true → b ≡ record { month = None; day = None; weekday = None; fraction = None; has_offset = b.has_offset }
number_beside b e =
    let month = both (not (is_some b.month)) _ e in
    let day = both (not (is_some b.day)) _ month.1 in
    let weekday = both (not (is_some b.weekday)) _ day.1 in
    rw (no_place b.month (is_not _ month.0), no_place b.day (is_not _ day.0), no_place b.weekday (is_not _ weekday.0), no_place b.fraction (is_not _ weekday.1)) refl
