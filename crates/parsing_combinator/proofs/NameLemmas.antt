-- Names of a table: all of one length, or told by their first three letters.
use Rattle.std.proofs.Common.{◌≡◌, ℕ, ◌<◌, ◌≤◌, ◌&&◌, Bool, true, false, List, [], ◌∷◌, ◌==◌, get_or, length, take, drop, Option, Some, None, inl, inr, refl, sym, ap, ◌∙◌, arith}
use Rattle.std.specs.Prelude.{nat_le, option_map}
use Rattle.std.specs.Option.{is_none}
use Rattle.std.specs.Int.Bits.{bit_or}
use Rattle.std.specs.Char.{to_ascii_lowercase}
use Rattle.std.proofs.lemmas.Bool.{agree_below_at, and_parts, cases_eq, cases_lt, eqb-true, le-leb, leb-true, false_from_ne_true}
use Rattle.std.proofs.lemmas.Bool.Decides.{nat_tests}
use Rattle.std.proofs.lemmas.List.{get_or-take, length-map, length-take-le, length-take}
use Rattle.std.proofs.Math.ListN.{get_or-map}
use Rattle.std.proofs.lemmas.Slice.Eq.{bytes_eq-Decides}
use Rattle.parsing_combinator.specs.Shape.{prefix, taken}
use Rattle.parsing_combinator.specs.Names.{compared, is_name, begins, named, letters, with_letters, form, said, long_months, long_weekdays, short_months, short_weekdays, periods, period}
use Rattle.parsing_combinator.proofs.Longest.{greatest_at, greatest_none, taken_same}

same_if : (b : Bool) (xs ys : List ℕ) → is_name b xs ys ≡ true → compared b xs ≡ compared b ys
same_if b xs ys e = (bytes_eq-Decides (compared b xs) (compared b ys)).0 e

-- a name has the length of every text that is it
pub is_name_length : (b : Bool) (name text : List ℕ) → is_name b name text ≡ true → length name ≡ length text
is_name_length b name text e = grind (arith, nat_tests, same_if, length-map)

-- ---- names of one length

abbrev pub are_even : {A : Type 0} → ℕ → List (List ℕ × A) → Bool
are_even n [] = true
are_even n (entry ∷ entries) = (length entry.0 == n) && are_even n entries

named_even : {A : Type 0} → (b : Bool) (n : ℕ) (entries : List (List ℕ × A)) (text : List ℕ) → are_even n entries ≡ true → ¬ (length text ≡ n) → named b entries text ≡ None
unfolding named
named_even b n [] text even other = refl
named_even b n (entry ∷ entries) text even other =
    let parts = and_parts _ _ even in
    let no : is_name b entry.0 text ≡ false = false_from_ne_true _ (λ is. other (sym (is_name_length b entry.0 text is) ∙ eqb-true _ _ parts.0)) in
    rw no (named_even b n entries text parts.1 other)

-- what is taken has that length
pub taken_even : {A : Type 0} → (b : Bool) (n : ℕ) (entries : List (List ℕ × A)) (bytes : List ℕ) → are_even n entries ≡ true → taken (named b entries) bytes ≡ prefix (named b entries) bytes n
unfolding taken
taken_even b n entries bytes even =
    let none : (j : ℕ) → ¬ (length (take j bytes) ≡ n) → prefix (named b entries) bytes j ≡ None = λ j other. ap (option_map (λ x. (x, drop j bytes))) (named_even b n entries (take j bytes) even other) in
    elim (cases_lt (length bytes) n) [
      | inl few ↦ greatest_none (prefix (named b entries) bytes) (length bytes) (λ j le. none j (λ e. omega (arith, length-take-le j bytes le))) ∙ sym (none n (λ e. omega (arith, length-take n bytes)))
      | inr enough ↦ greatest_at (prefix (named b entries) bytes) (length bytes) n enough (λ j le other. none j (λ e. other (omega (arith, length-take-le j bytes le))))
    ]

-- ---- by the first letters

fold_lower : (c : ℕ) → bit_or (to_ascii_lowercase c) 32 ≡ bit_or c 32
fold_lower c =
    elim (cases_lt c 91) [
      | inl lt ↦ eqb-true _ _ (agree_below_at (λ (x : ℕ). bit_or (to_ascii_lowercase x) 32 == bit_or x 32) (λ _. true) 91 c refl lt)
      | inr above ↦ let same : to_ascii_lowercase c ≡ c = grind (arith, nat_tests) in rw same refl
    ]

folded_at : (b : Bool) (k : ℕ) (text : List ℕ) → bit_or (get_or (compared b text) k 0) 32 ≡ bit_or (get_or text k 0) 32
folded_at true k text = refl
folded_at false k text = ap (λ (c : ℕ). bit_or c 32) (get_or-map to_ascii_lowercase text k 0) ∙ fold_lower (get_or text k 0)

-- a name that is at the start has the first letters that are there
same_letters : (b : Bool) (name bytes : List ℕ) (j : ℕ) → 3 ≤ length name → j ≤ length bytes → is_name b name (take j bytes) ≡ true → letters name ≡ letters bytes
same_letters b name bytes j some le is =
    let long : length name ≡ j = omega (arith, is_name_length b name (take j bytes) is, length-take-le j bytes le) in
    let same = λ (k : ℕ) (lt : k < j).
    sym (folded_at b k name) ∙ ap (λ (t : List ℕ). bit_or (get_or t k 0) 32) (same_if b name (take j bytes) is) ∙ folded_at b k (take j bytes) ∙ ap (λ (c : ℕ). bit_or c 32) (get_or-take j bytes k 0 lt) in
    rw (le-leb 3 (length name) some, le-leb 3 (length bytes) (omega arith), same 0 (omega arith), same 1 (omega arith), same 2 (omega arith)) refl

-- names in a form, each told by its first three letters
abbrev pub formed : {A : Type 0} → Bool → List (List ℕ × A) → List (List ℕ × A)
formed is_long [] = []
formed is_long (entry ∷ entries) = (form is_long entry.0, entry.1) ∷ formed is_long entries

abbrev pub are_told : {A : Type 0} → Bool → List (List ℕ × A) → Bool
are_told is_long [] = true
are_told is_long (entry ∷ entries) =
    (nat_le 3 (length (form is_long entry.0)) && letters (form is_long entry.0) == letters entry.0) && (is_none (with_letters (letters entry.0) entries) && are_told is_long entries)

-- an entry alone, if there is one
abbrev pub alone : {A : Type 0} → Bool → Option (List ℕ × A) → List (List ℕ × A)
alone is_long None = []
alone is_long (Some entry) = (form is_long entry.0, entry.1) ∷ []

none_if : {A : Type 0} → (o : Option A) → is_none o ≡ true → o ≡ None
none_if o e = grind (arith, nat_tests)

named_told : {A : Type 0} → (b : Bool) (is_long : Bool) (entries : List (List ℕ × A)) (bytes : List ℕ) (j : ℕ) → j ≤ length bytes → are_told is_long entries ≡ true
    → named b (formed is_long entries) (take j bytes) ≡ named b (alone is_long (with_letters (letters bytes) entries)) (take j bytes)
unfolding named
named_told b is_long [] bytes j le told = refl
named_told b is_long (entry ∷ entries) bytes j le told =
    let parts = and_parts _ _ told in
    let name = and_parts _ _ parts.0 in
    let others = and_parts _ _ parts.1 in
    let more = named_told b is_long entries bytes j le others.1 in
    elim (cases_eq (letters entry.0) (letters bytes)) [
      | inl same ↦
          let none : with_letters (letters bytes) entries ≡ None = ap (λ (n : ℕ). with_letters n entries) (sym same) ∙ none_if (with_letters (letters entry.0) entries) others.0 in
          let test : (letters entry.0 == letters bytes) ≡ true = grind (arith, nat_tests) in
          rw (test, more, none) refl
      | inr other ↦
          let test : (letters entry.0 == letters bytes) ≡ false = grind (arith, nat_tests) in
          let no : is_name b (form is_long entry.0) (take j bytes) ≡ false = false_from_ne_true _ (λ is. other (sym (eqb-true _ _ name.1) ∙ same_letters b (form is_long entry.0) bytes j (leb-true _ _ name.0) le is)) in
          rw (test, no) more
    ]

taken_alone : {A : Type 0} → (b : Bool) (is_long : Bool) (o : Option (List ℕ × A)) (bytes : List ℕ) → taken (named b (alone is_long o)) bytes ≡ said b is_long o bytes
unfolding named begins
taken_alone b is_long None bytes = taken_even b 0 [] bytes refl
taken_alone b is_long (Some entry) bytes =
    let n = length (form is_long entry.0) in
    let even : ((n == n) && true) ≡ true = grind (arith, nat_tests) in
    taken_even b n ((form is_long entry.0, entry.1) ∷ []) bytes even

taken_told : {A : Type 0} → (is_long : Bool) (entries : List (List ℕ × A)) → are_told is_long entries ≡ true → (b : Bool) (bytes : List ℕ) → taken (named b (formed is_long entries)) bytes ≡ said b is_long (with_letters (letters bytes) entries) bytes
taken_told is_long entries told b bytes =
    let one = with_letters (letters bytes) entries in
    taken_same (named b (formed is_long entries)) (named b (alone is_long one)) bytes (λ j le. named_told b is_long entries bytes j le told) ∙ taken_alone b is_long one bytes

-- ---- the names

pub taken_long_month : (b : Bool) (bytes : List ℕ) → taken (named b long_months) bytes ≡ said b true (with_letters (letters bytes) long_months) bytes
taken_long_month = taken_told true long_months refl

pub taken_short_month : (b : Bool) (bytes : List ℕ) → taken (named b short_months) bytes ≡ said b false (with_letters (letters bytes) long_months) bytes
taken_short_month = taken_told false long_months refl

pub taken_long_weekday : (b : Bool) (bytes : List ℕ) → taken (named b long_weekdays) bytes ≡ said b true (with_letters (letters bytes) long_weekdays) bytes
taken_long_weekday = taken_told true long_weekdays refl

pub taken_short_weekday : (b : Bool) (bytes : List ℕ) → taken (named b short_weekdays) bytes ≡ said b false (with_letters (letters bytes) long_weekdays) bytes
taken_short_weekday = taken_told false long_weekdays refl

pub taken_period : (upper sensitive : Bool) (bytes : List ℕ) → taken (period upper sensitive) bytes ≡ prefix (named (upper && sensitive) periods) bytes 2
unfolding period
taken_period upper sensitive bytes = taken_even (upper && sensitive) 2 periods bytes refl

-- a text shorter than a name doesn't begin with it
pub short_text : (b : Bool) (name bytes : List ℕ) → length bytes < length name → is_name b name (take (length name) bytes) ≡ false
short_text b name bytes lt =
    false_from_ne_true _ (λ is. let e = is_name_length b name (take (length name) bytes) is in let f = length-take (length name) bytes in omega (arith, e, f))
