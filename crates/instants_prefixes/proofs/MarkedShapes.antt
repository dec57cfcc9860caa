-- What is taken in a shape of numbers or names has a byte that is no white space.
use Rattle.std.proofs.Common.{◌≡◌, ◌≤◌, ◌-◌, ℕ, zero, suc, Bool, true, false, eqb, List, [], ◌∷◌, ◌++◌, length, get_or, take, drop, Option, Some, None, refl, sym, ap, ◌∙◌, arith, take-append-drop}
use Rattle.std.specs.Prelude.{IfSome, map, nat_le, nat_lt, option_map, if◌then◌else◌}
use Rattle.std.specs.Char.{is_ascii_alphabetic, is_ascii_digit, is_ascii_whitespace, to_ascii_lowercase}
use Rattle.std.specs.List.{list_all}
use Rattle.std.proofs.lemmas.Bool.Decides.{nat_tests}
use Rattle.std.proofs.lemmas.Bool.{and_parts}
use Rattle.std.proofs.lemmas.Slice.Eq.{bytes_eq-Decides}
use Rattle.description_modifiers.specs.declared.choices.Padding.{Padding}
use Rattle.description_modifiers.specs.declared.choices.Padding.TheVariants as padding
use Rattle.parsing_combinator.specs.Shape.{Shape, after_spaces, are_digits, digits_as, digits_between, is_sign, nothing, signed, space_count, spaced_between, greatest, or_before, prefix, taken}
use Rattle.parsing_combinator.specs.Numbers.{padded, signed_if, year, century, offset_hour, timestamp}
use Rattle.parsing_combinator.specs.Names.{is_name, named, period, short_months, long_months, short_weekdays, long_weekdays, periods}
use Rattle.instants_prefixes.proofs.Marked.{HasMark, mark_dropped}

-- each text of the shape has such a byte
abbrev pub IsMarking : {A : Type 0} → Shape A → Type 0
IsMarking shape = (text : List ℕ) → IfSome (shape text) (λ x. HasMark text)

first_mark : (c : ℕ) (cs : List ℕ) → is_ascii_whitespace c ≡ false → HasMark (c ∷ cs)
first_mark c cs e = record { place = 0; within = omega arith; is = e }

if_so : {A : Type 0} (b : Bool) (x : A) (P : Type 0) → (b ≡ true → P) → IfSome (if b then Some x else None) (λ x. P)
if_so true x P h = h refl
if_so false x P h = tt

map_so : {A B : Type 0} (f : A → B) (o : Option A) (P : Type 0) → IfSome o (λ x. P) → IfSome (option_map f o) (λ x. P)
map_so f None P h = tt
map_so f (Some x) P h = h

-- ---- digits

no_white : (c : ℕ) → is_ascii_digit c ≡ true → is_ascii_whitespace c ≡ false
no_white c e = grind (arith, nat_tests)

digit_marks : (n m : ℕ) (text : List ℕ) → 1 ≤ n → are_digits n m text ≡ true → HasMark text
digit_marks n m [] le e = absurd (let none : nat_le n 0 ≡ true = grind (arith, nat_tests) in grind (arith, nat_tests))
digit_marks n m (c ∷ cs) le e = first_mark c cs (no_white c (grind (arith, nat_tests)))

pub digits_marking : {A : Type 0} (value : List ℕ → A) (n m : ℕ) → 1 ≤ n → IsMarking (digits_as value n m)
unfolding digits_as
digits_marking value n m le text = if_so (are_digits n m text) (value text) (HasMark text) (digit_marks n m text le)

dropped_so : {A : Type 0} (n : ℕ) (text : List ℕ) (o : Option A) → IfSome o (λ x. HasMark (drop n text)) → IfSome o (λ x. HasMark text)
dropped_so n text None h = tt
dropped_so n text (Some x) h = mark_dropped n text h

spaces_marking : (spaces n m : ℕ) → IsMarking (after_spaces spaces n m)
spaces_marking spaces n m text =
    let digits = digits_between (n - spaces) (m - spaces) in
    elim (nat_lt spaces n) as (λ b. nat_lt spaces n ≡ b → IfSome (if b then digits (drop spaces text) else None) (λ x. HasMark text)) [
      | true ↦ λ e.
          let few : 1 ≤ n - spaces = grind (arith, nat_tests) in
          dropped_so spaces text (digits (drop spaces text)) (digits_marking _ (n - spaces) (m - spaces) few (drop spaces text))
      | false ↦ λ e. tt
    ] refl

pub padded_marking : (p : Padding) (n m : ℕ) → 1 ≤ n → IsMarking (padded p n m)
unfolding padded spaced_between
padded_marking padding.Zero n m le = digits_marking _ n m le
padded_marking padding.Space n m le = λ text. spaces_marking (space_count text) n m text
padded_marking padding.None n m le = digits_marking _ 1 m (omega arith)

-- ---- signs

sign_marks : (c : ℕ) → is_sign c ≡ true → is_ascii_whitespace c ≡ false
sign_marks c e = grind (arith, nat_tests)

any_so : {B : Type 0} (o : Option B) (P : Type 0) → P → IfSome o (λ x. P)
any_so None P h = tt
any_so (Some x) P h = h

signed_marking : {A : Type 0} (after bare : Shape A) → IsMarking bare → IsMarking (signed after bare)
unfolding signed
signed_marking after bare h [] = map_so (λ x. (false, x)) (bare []) (HasMark []) (h [])
signed_marking {A = A} after bare h (c ∷ cs) =
    let signed_so : Option (Bool × A) = option_map (λ x. (eqb c 45, x)) (after cs) in
    let bare_so : Option (Bool × A) = option_map (λ x. (false, x)) (bare (c ∷ cs)) in
    elim (is_sign c) as (λ b. is_sign c ≡ b → IfSome (if b then signed_so else bare_so) (λ x. HasMark (c ∷ cs))) [
      | true ↦ λ e. any_so signed_so (HasMark (c ∷ cs)) (first_mark c cs (sign_marks c e))
      | false ↦ λ e. map_so (λ x. (false, x)) (bare (c ∷ cs)) (HasMark (c ∷ cs)) (h (c ∷ cs))
    ] refl

signed_if_marking : (mandatory : Bool) (after bare : Shape ℕ) → IsMarking bare → IsMarking (signed_if mandatory after bare)
unfolding signed_if nothing
signed_if_marking true after bare h = signed_marking after nothing (λ text. tt)
signed_if_marking false after bare h = signed_marking after bare h

pub year_marking : (p : Padding) (mandatory extended : Bool) → IsMarking (year p mandatory extended)
unfolding year
year_marking p mandatory extended = signed_if_marking mandatory _ (padded p 4 4) (padded_marking p 4 4 (omega arith))

pub century_marking : (p : Padding) (mandatory extended : Bool) → IsMarking (century p mandatory extended)
unfolding century
century_marking p mandatory extended = signed_if_marking mandatory _ (padded p 1 2) (padded_marking p 1 2 (omega arith))

pub offset_hour_marking : (p : Padding) (mandatory : Bool) → IsMarking (offset_hour p mandatory)
unfolding offset_hour
offset_hour_marking p mandatory = signed_if_marking mandatory _ (padded p 2 2) (padded_marking p 2 2 (omega arith))

pub timestamp_marking : (mandatory : Bool) (most : ℕ) → IsMarking (timestamp mandatory most)
unfolding timestamp
timestamp_marking mandatory most = signed_if_marking mandatory _ (digits_between 1 most) (digits_marking _ 1 most (omega arith))

-- ---- names

-- each name begins with a letter
abbrev are_lettered : {A : Type 0} → List (List ℕ × A) → Bool
are_lettered entries = list_all (λ entry. is_ascii_alphabetic (get_or entry.0 0 0)) entries

lettered : (text : List ℕ) → is_ascii_alphabetic (get_or text 0 0) ≡ true → HasMark text
lettered [] letter = absurd cc
lettered (c ∷ cs) letter = first_mark c cs (grind (arith, nat_tests))

lower_first : (text : List ℕ) → is_ascii_alphabetic (get_or (map to_ascii_lowercase text) 0 0) ≡ is_ascii_alphabetic (get_or text 0 0)
lower_first [] = refl
lower_first (c ∷ cs) = grind (arith, nat_tests)

name_marks : (b : Bool) (name text : List ℕ) → is_ascii_alphabetic (get_or name 0 0) ≡ true → is_name b name text ≡ true → is_ascii_alphabetic (get_or text 0 0) ≡ true
name_marks true name text letter e = rw (← (bytes_eq-Decides name text).0 e) letter
name_marks false name text letter e =
    let same = (bytes_eq-Decides (map to_ascii_lowercase name) (map to_ascii_lowercase text)).0 e in
    sym (lower_first text) ∙ ap (λ (t : List ℕ). is_ascii_alphabetic (get_or t 0 0)) (sym same) ∙ lower_first name ∙ letter

pub named_marking : {A : Type 0} (b : Bool) (entries : List (List ℕ × A)) → are_lettered entries ≡ true → IsMarking (named b entries)
unfolding named
named_marking b [] letters text = tt
named_marking b (entry ∷ entries) letters text =
    let both = and_parts _ _ letters in
    let others = named b entries text in
    elim (is_name b entry.0 text) as (λ so. is_name b entry.0 text ≡ so → IfSome (if so then Some entry.1 else others) (λ x. HasMark text)) [
      | true ↦ λ e. lettered text (name_marks b entry.0 text both.0 e)
      | false ↦ λ e. named_marking b entries both.1 text
    ] refl

pub period_marking : (upper sensitive : Bool) → IsMarking (period upper sensitive)
unfolding period
period_marking upper sensitive = named_marking _ periods refl

-- ---- what is taken

-- bytes with such a byte stand before the rest
pub record IsMarkedBefore (bytes rest : List ℕ) : Type 0 where
  pub taken : List ℕ
  pub is : bytes ≡ taken ++ rest
  pub mark : HasMark taken

abbrev pub Takes : {A : Type 0} → List ℕ → Option (A × List ℕ) → Type 0
Takes bytes None = Unit {0}
Takes bytes (Some x) = IsMarkedBefore bytes x.1

prefix_takes : {A : Type 0} (k : ℕ) (bytes : List ℕ) (o : Option A) → IfSome o (λ x. HasMark (take k bytes))
    → Takes bytes (option_map (λ x. (x, drop k bytes)) o)
prefix_takes k bytes None h = tt
prefix_takes k bytes (Some x) h = record { taken = take k bytes; is = sym (take-append-drop k bytes); mark = h }

or_takes : {A : Type 0} (bytes : List ℕ) (one other : Option (A × List ℕ)) → Takes bytes one → Takes bytes other → Takes bytes (or_before one other)
or_takes bytes None other h k = k
or_takes bytes (Some x) other h k = h

greatest_takes : {A : Type 0} (shape : Shape A) (bytes : List ℕ) (n : ℕ) → IsMarking shape → Takes bytes (greatest (prefix shape bytes) n)
greatest_takes shape bytes zero h = prefix_takes 0 bytes (shape (take 0 bytes)) (h (take 0 bytes))
greatest_takes shape bytes (suc n) h =
    let text = take (suc n) bytes in
    or_takes bytes (prefix shape bytes (suc n)) _ (prefix_takes (suc n) bytes (shape text) (h text)) (greatest_takes shape bytes n h)

pub taken_takes : {A : Type 0} (shape : Shape A) (bytes : List ℕ) → IsMarking shape → Takes bytes (taken shape bytes)
unfolding taken
taken_takes shape bytes h = greatest_takes shape bytes (length bytes) h
