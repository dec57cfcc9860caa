-- What steps say, one after the other.
use Rattle.std.proofs.Common.{◌≡◌, ◌+◌, ◌∙◌, ◌||◌, ℕ, Bool, true, false, not, List, [], ◌∷◌, ◌++◌, take, drop, Option, Some, None, refl, sym, ap, arith, inl, inr}
use Rattle.std.proofs.Math.Bool.{or_assoc}
use Rattle.std.specs.Borrow.{Bor}
use Rattle.std.proofs.Props.{props}
use Rattle.std.specs.Prelude.{IfSome}
use Rattle.std.proofs.lemmas.List.{take-append-drop, take-take, drop-take, drop-drop, append-nil}
use Rattle.parsing_combinator.specs.Shape.{is_sign}
use Rattle.parsing_combinator.specs.Tame.{EndsWith}
use Rattle.parsing_layout.specs.Layout.{piece_of, value_of, field_of}
use Rattle.parsing_layout.specs.declared.parts.Field.{Field}
use Rattle.parsing_layout.specs.declared.parts.Part.{Part}
use Rattle.parsing_combinator.specs.Pieces.{byte}
use Rattle.parsing_layout.specs.Items.{SaysItems, all_certain, all_possible, are_certain}
use Rattle.parsing_layout.specs.declared.items.Item.{Item}
use Rattle.parsing_layout.specs.declared.items.Item.TheVariants as item
use Rattle.parsing_layout.specs.declared.parts.Part.TheVariants as part
use Rattle.parsing_layout.specs.Said.{is_of, fields_of, says_again, are_apart}
use Rattle.parsing_layout.specs.declared.parts.Field.TheVariants as field
use Rattle.parsing_layout.proofs.ItemsLemmas.{said_certain, certain_items, certain_possible, both_say, both_possible}
use Rattle.parsing_layout.proofs.TestLemmas.{both, one, is_not}
use Rattle.parsing_strides.specs.Found.{values_in, SaysAsFound, SayItems, KeepOthers}
use Rattle.parsing_strides.specs.Strides.{FitsStep, AreMade, count_of, fits_stride}
use Rattle.parsing_strides.specs.declared.found.Found.{Found}
use Rattle.parsing_strides.specs.declared.step.Step.{Step}
use Rattle.parsing_strides.specs.declared.step.Step.TheVariants as step
use Rattle.parsing_strides.specs.declared.stride.Stride.{Stride}
use Rattle.parsing_strides.proofs.StrideLemmas.{first_agrees, or_right}
use Rattle.std.proofs.lemmas.Bool.Decides.{nat_tests}

neither : (a b : Bool) → (a || b) ≡ false → (a ≡ false) × (b ≡ false)
neither a b e = grind (arith, nat_tests)

-- ---- an item by itself

pub part_said : (p : Part) (text rest : List ℕ) (old new : Found) → piece_of p text ≡ Some (value_of p (values_in new), rest)
    → ((f : Field) → is_of f (field_of p) ≡ false → values_in new f ≡ values_in old f) → SayItems (item.Part p ∷ []) text rest old new
part_said p text rest old new e kept = record {
  way = p ∷ [];
  says = λ v agree marked. (rest, p ∷ [], [], refl, (refl, (rest, rw (first_agrees p [] v (values_in new) agree) e, refl)), (refl, refl));
  kept = λ f absent. kept f (neither (is_of f (field_of p)) false absent).0;
  within = λ f absent. absent;
}

byte_said : (b : ℕ) (text after : List ℕ) → byte b text ≡ Some (tt, after) → piece_of (part.Byte b) text ≡ Some (0, after)
byte_said b text after e = rw e refl

pub optional_there : (b : ℕ) (p : Part) (text after rest : List ℕ) (old new : Found) → byte b text ≡ Some (tt, after)
    → piece_of p after ≡ Some (value_of p (values_in new), rest) → ((f : Field) → is_of f (field_of p) ≡ false → values_in new f ≡ values_in old f)
    → SayItems (item.Optional b p ∷ []) text rest old new
optional_there b p text after rest old new first e kept = record {
  way = part.Byte b ∷ p ∷ [];
  says = λ v agree marked. (rest, part.Byte b ∷ p ∷ [], [], refl, inl (refl, (after, byte_said b text after first, (rest, rw (first_agrees p [] v (values_in new) agree) e, refl))), (refl, refl));
  kept = λ f absent. kept f (neither (is_of f (field_of p)) false absent).0;
  within = λ f absent. absent;
}

pub optional_missing : (b : ℕ) (p : Part) (text : List ℕ) (found : Found) → byte b text ≡ None → SayItems (item.Optional b p ∷ []) text text found found
optional_missing b p text found none = grind (arith, nat_tests)

-- ---- parts of fixed widths

pub stride_said : (is : List Item) (text rest : List ℕ) (old new : Found) → are_certain is ≡ true → SaysAsFound (all_certain is) text rest new
    → KeepOthers (all_certain is) old new → SayItems is text rest old new
stride_said is text rest old new certain says kept = record {
  way = all_certain is;
  says = λ v agree marked. rw (certain_items is certain) at (said_certain (all_certain is) text v rest (says v agree marked));
  kept = kept;
  within = λ f absent. rw (certain_possible is certain) at absent;
}

found_at : (is : List Item) (text : List ℕ) (o : Option (Bor (List ℕ))) (old new : Found) → are_certain is ≡ true
    → IfSome o (λ after. SaysAsFound (all_certain is) text after.now new) → IfSome o (λ _. KeepOthers (all_certain is) old new)
    → IfSome o (λ after. SayItems is text after.now old new)
found_at is text o old new certain says kept = grind (arith, nat_tests, stride_said)

pub stride_found : (s : Stride) (is : List Item) (text : List ℕ) (o : Option (Bor (List ℕ))) (old new : Found) → FitsStep (step.Stride s) is
    → ((ps : List Part) → fits_stride s ps ≡ true → IfSome o (λ after. SaysAsFound ps text after.now new))
    → ((ps : List Part) → fits_stride s ps ≡ true → IfSome o (λ _. KeepOthers ps old new)) → IfSome o (λ after. SayItems is text after.now old new)
stride_found s is text o old new fits says kept = found_at is text o old new fits.0 (says (all_certain is) fits.1) (kept (all_certain is) fits.1)

-- ---- two lists

pub said_by_both : (ps qs : List Part) (f : Field) → fields_of (ps ++ qs) f ≡ (fields_of ps f || fields_of qs f)
said_by_both [] qs f = refl
said_by_both (p ∷ ps) qs f = rw (said_by_both ps qs f) (sym (or_assoc (is_of f (field_of p)) (fields_of ps f) (fields_of qs f)))

in_first : (ps qs : List Part) (f : Field) → fields_of ps f ≡ true → fields_of (ps ++ qs) f ≡ true
in_first ps qs f e = rw (said_by_both ps qs f, e) refl

in_second : (ps qs : List Part) (f : Field) → fields_of qs f ≡ true → fields_of (ps ++ qs) f ≡ true
in_second ps qs f e = rw (said_by_both ps qs f) (or_right (fields_of ps f) (fields_of qs f) e)

in_neither : (ps qs : List Part) (f : Field) → fields_of (ps ++ qs) f ≡ false → (fields_of ps f ≡ false) × (fields_of qs f ≡ false)
in_neither ps qs f e = neither (fields_of ps f) (fields_of qs f) (sym (said_by_both ps qs f) ∙ e)

not_in_first : (ps qs : List Part) (o : Option Field) → says_again (ps ++ qs) o ≡ false → says_again ps o ≡ false
not_in_first ps qs o e = grind (arith, nat_tests, in_neither)

apart_first : (ps qs : List Part) → are_apart (ps ++ qs) ≡ true → are_apart ps ≡ true
apart_first [] qs e = refl
apart_first (p ∷ ps) qs e =
    let b = both (not (says_again (ps ++ qs) (field_of p))) (are_apart (ps ++ qs)) e in
    rw (not_in_first ps qs (field_of p) (is_not (says_again (ps ++ qs) (field_of p)) b.0), apart_first ps qs b.1) refl

-- a field of a part is none of those that are apart from it
apart_here : (o : Option Field) (ps qs : List Part) (f : Field) → says_again (ps ++ qs) o ≡ false → is_of f o ≡ true → fields_of qs f ≡ false
apart_here o ps qs f absent e = grind (arith, nat_tests, in_neither)

-- fields of the first are none of the second
apart_both : (ps qs : List Part) (f : Field) → are_apart (ps ++ qs) ≡ true → fields_of ps f ≡ true → fields_of qs f ≡ false
apart_both [] qs f e said = absurd cc
apart_both (p ∷ ps) qs f e said =
    let b = both (not (says_again (ps ++ qs) (field_of p))) (are_apart (ps ++ qs)) e in
    elim (one (is_of f (field_of p)) (fields_of ps f) said) [
      | inl here ↦ apart_here (field_of p) ps qs f (is_not (says_again (ps ++ qs) (field_of p)) b.0) here
      | inr later ↦ apart_both ps qs f b.1 later
    ]

-- ---- one step more

within_first : (a b : Bool) → (a ≡ false → b ≡ false) → b ≡ true → a ≡ true
within_first a b less e = grind (arith, nat_tests)

both_found : (is js : List Item) (text mid rest : List ℕ) (old between new : Found) → are_apart (all_possible is ++ all_possible js) ≡ true
    → SayItems is text mid old between → SayItems js mid rest between new → SayItems (is ++ js) text rest old new
both_found is js text mid rest old between new apart first later =
    let possible = both_possible is js in
    let spared : (f : Field) → fields_of first.way f ≡ true → fields_of later.way f ≡ false = λ f said.
    later.within f (apart_both (all_possible is) (all_possible js) f apart (within_first (fields_of (all_possible is) f) (fields_of first.way f) (first.within f) said)) in
    record {
      way = first.way ++ later.way;
      says = λ v agree marked. both_say is js text mid rest v first.way later.way
          (first.says v (λ f said. agree f (in_first first.way later.way f said) ∙ later.kept f (spared f said)) marked)
          (later.says v (λ f said. agree f (in_second first.way later.way f said)) marked);
      kept = λ f absent. let n = in_neither first.way later.way f absent in later.kept f n.1 ∙ first.kept f n.0;
      within = λ f absent.
          let n = in_neither (all_possible is) (all_possible js) f (rw possible at absent) in
          rw (said_by_both first.way later.way f, first.within f n.0, later.within f n.1) refl;
    }

-- ---- the steps so far

-- what was read of items for which steps were made: so many, and the later steps were made for the others
pub record HasRead (later : List Step) (line rest : List ℕ) (old new : Found) (is : List Item) : Type 0 where
  pub count : ℕ
  pub made : AreMade later (drop count is)
  pub says : SayItems (take count is) line rest old new

pub record SoFar (steps later : List Step) (line rest : List ℕ) (old new : Found) : Type 0 where
  pub read : (is : List Item) → AreMade steps is → are_apart (all_possible is) ≡ true → HasRead later line rest old new is
  pub end : EndsWith line rest

pub at_first : (steps : List Step) (line : List ℕ) (found : Found) → SoFar steps steps line line found found
at_first steps line found = grind (arith, nat_tests)

more_read : (s : Step) (later : List Step) (line mid rest : List ℕ) (old between new : Found) (is : List Item) → are_apart (all_possible is) ≡ true
    → ((js : List Item) → FitsStep s js → SayItems js mid rest between new) → HasRead (s ∷ later) line mid old between is → HasRead later line rest old new is
more_read s later line mid rest old between new is apart says h =
    let n = h.count in
    let m = count_of s in
    let cut : take (n + m) is ≡ take n is ++ take m (drop n is) =
    sym (take-append-drop n (take (n + m) is)) ∙ rw (take-take n (n + m) is (omega arith), drop-take n m is) refl in
    let all : all_possible is ≡ all_possible (take (n + m) is) ++ all_possible (drop (n + m) is) =
    ap all_possible (sym (take-append-drop (n + m) is)) ∙ both_possible (take (n + m) is) (drop (n + m) is) in
    let front = apart_first (all_possible (take (n + m) is)) (all_possible (drop (n + m) is)) (rw (← all) apart) in
    let both_apart = rw (cut, both_possible (take n is) (take m (drop n is))) at front in
    record {
      count = n + m;
      made = rw (← drop-drop m n is) h.made.2;
      says = rw cut (both_found (take n is) (take m (drop n is)) line mid rest old between new both_apart h.says (says (take m (drop n is)) h.made.1));
    }

pub one_further : (steps later : List Step) (s : Step) (line mid rest : List ℕ) (old between new : Found) → SoFar steps (s ∷ later) line mid old between
    → ((js : List Item) → FitsStep s js → SayItems js mid rest between new) → EndsWith line rest → SoFar steps later line rest old new
one_further steps later s line mid rest old between new far says end =
    record { read = λ is made apart. more_read s later line mid rest old between new is apart says (far.read is made apart); end = end }

pub all_read : (is : List Item) (line rest : List ℕ) (old new : Found) → HasRead [] line rest old new is → SayItems is line rest old new
all_read is line rest old new h =
    let all : take h.count is ≡ is =
    sym (append-nil (take h.count is)) ∙ ap (λ js. take h.count is ++ js) (sym h.made) ∙ take-append-drop h.count is in
    rw all at h.says

-- what all of them say, with the numbers that were found
pub all_say : (is : List Item) (line : List ℕ) (o : Option (Bor (List ℕ))) (old new : Found) → is_sign (values_in new field.Sign) ≡ true
    → IfSome o (λ rest. SayItems is line rest.now old new)
    → IfSome o (λ rest. (way : List Part) × SaysItems is line (values_in new) rest.now way × ((f : Field) → fields_of way f ≡ false → values_in new f ≡ values_in old f))
all_say is line o old new marked h = grind (arith, nat_tests)

-- ---- that steps were made is one fact

fits_once : (s : Step) (is : List Item) → IsProp (FitsStep s is)
fits_once (step.Part p) is = hlevel props
fits_once (step.Optional b p) is = hlevel props
fits_once (step.Stride s) is = hlevel props

pub made_once : (ss : List Step) (is : List Item) → IsProp (AreMade ss is)
made_once [] is = hlevel props
made_once (s ∷ ss) is = hlevel (props, fits_once s (take (count_of s) is), made_once ss (drop (count_of s) is))
