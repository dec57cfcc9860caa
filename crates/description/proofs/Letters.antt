-- Texts that differ in the case of ASCII letters alone.
use Rattle.std.proofs.Common.{◌≡◌, ℕ, ◌+◌, ◌<◌, List, [], ◌∷◌, ◌++◌, length, map, Bool, true, false, refl, sym, ap, ◌∙◌, arith, inl, inr, ◌⊎◌}
use Rattle.std.specs.Prelude.{◌&&◌}
use Rattle.std.specs.Char.{to_ascii_lowercase, is_ascii_digit}
use Rattle.std.specs.List.{list_all}
use Rattle.std.specs.Str.{str_to_ascii_lowercase, str_eq_ignore_ascii_case}
use Rattle.std.proofs.lemmas.Bool.{both_ways, cases_lt, and_parts}
use Rattle.std.proofs.lemmas.Bool.Decides.{nat_tests}
use Rattle.std.proofs.lemmas.Slice.Eq.{bytes_eq-Decides}
use Rattle.std.proofs.lemmas.Str.Ascii.{lowercase_is}
use Rattle.description_lexer.specs.Text.{is_space, is_word_byte, is_no_colon}
use Rattle.description_grammar.specs.Heads.{Each, IsWord}

-- ---- bytes

abbrev pub IsLetter : ℕ → Type 0
IsLetter b = (64 < b) × (b < 123) × ((b < 91) ⊎ (96 < b))

-- what the lower case of a byte is
abbrev Kind : ℕ → Type 0
Kind b = ((to_ascii_lowercase b ≡ b) × ((b < 65) ⊎ (90 < b))) ⊎ ((to_ascii_lowercase b ≡ b + 32) × (64 < b) × (b < 91))

kind_of : (b : ℕ) → Kind b
kind_of b = elim (cases_lt b 65) [
  | inl lt ↦ inl ((lowercase_is b).1 lt, inl lt)
  | inr ge ↦ elim (cases_lt b 91) [
    | inl lt ↦ inr ((lowercase_is b).0 (omega arith, omega arith), omega arith, lt)
    | inr ge2 ↦ inl ((lowercase_is b).2 (omega arith), inr (omega arith))
  ]
]

-- two bytes of one lower case are the same, or both letters
same_or_letters : (b c : ℕ) → to_ascii_lowercase b ≡ to_ascii_lowercase c → (b ≡ c) ⊎ (IsLetter b × IsLetter c)
same_or_letters b c e = by_kind (kind_of b) (kind_of c)
  where
    by_kind : Kind b → Kind c → (b ≡ c) ⊎ (IsLetter b × IsLetter c)
    by_kind (inl k) (inl l) = inl (sym k.0 ∙ e ∙ l.0)
    by_kind (inr k) (inr l) = inl (omega (arith, k.0, l.0, e))
    by_kind (inl k) (inr l) = inr ((omega (arith, k.0, l.0, e, l.1), omega (arith, k.0, l.0, e, l.2), inr (omega (arith, k.0, l.0, e, l.1))), (l.1, omega (arith, l.2), inl l.2))
    by_kind (inr k) (inl l) = inr ((k.1, omega (arith, k.2), inl k.2), (omega (arith, k.0, l.0, e, k.1), omega (arith, k.0, l.0, e, k.2), inr (omega (arith, k.0, l.0, e, k.1))))

letter_space : (b : ℕ) → IsLetter b → is_space b ≡ false
letter_space b h = grind (arith, nat_tests)

letter_word : (b : ℕ) → IsLetter b → is_word_byte b ≡ true
letter_word b (lo, hi, inl h) = grind (arith, nat_tests)
letter_word b (lo, hi, inr h) = grind (arith, nat_tests)

letter_no_colon : (b : ℕ) → IsLetter b → is_no_colon b ≡ true
letter_no_colon b h = grind (arith, nat_tests)

letter_digit : (b : ℕ) → IsLetter b → is_ascii_digit b ≡ false
letter_digit b h = grind (arith, nat_tests)

-- a test that all letters answer alike
abbrev Agrees : (ℕ → Bool) → Type 0
Agrees p = (b c : ℕ) → to_ascii_lowercase b ≡ to_ascii_lowercase c → p b ≡ p c

agrees : (p : ℕ → Bool) (answer : Bool) → ((b : ℕ) → IsLetter b → p b ≡ answer) → Agrees p
agrees p answer of_letter b c e = elim (same_or_letters b c e) [
  | inl same ↦ ap p same
  | inr both ↦ of_letter b both.0 ∙ sym (of_letter c both.1)
]

pub space_agrees : Agrees is_space
space_agrees = agrees is_space false letter_space

pub word_agrees : Agrees is_word_byte
word_agrees = agrees is_word_byte true letter_word

pub colon_agrees : Agrees is_no_colon
colon_agrees = agrees is_no_colon true letter_no_colon

digit_agrees : Agrees is_ascii_digit
digit_agrees = agrees is_ascii_digit false letter_digit

-- ---- texts

abbrev pub Alike : List ℕ → List ℕ → Type 0
Alike [] [] = Unit {0}
Alike [] (c ∷ cs) = ⊥
Alike (b ∷ bs) [] = ⊥
Alike (b ∷ bs) (c ∷ cs) = (to_ascii_lowercase b ≡ to_ascii_lowercase c) × Alike bs cs

of_lower : (xs ys : List ℕ) → map to_ascii_lowercase xs ≡ map to_ascii_lowercase ys → Alike xs ys
of_lower [] [] e = tt
of_lower [] (c ∷ cs) e = absurd cc
of_lower (b ∷ bs) [] e = absurd cc
of_lower (b ∷ bs) (c ∷ cs) e = let p = parts _ _ _ _ e in (p.0, of_lower bs cs p.1)
  where
    parts : (x y : ℕ) (xs ys : List ℕ) → x ∷ xs ≡ y ∷ ys → (x ≡ y) × (xs ≡ ys)
    parts x y xs ys e = (cc, cc)

pub alike_from : (xs ys : List ℕ) → str_eq_ignore_ascii_case xs ys ≡ true → Alike xs ys
alike_from xs ys h = of_lower xs ys ((bytes_eq-Decides (str_to_ascii_lowercase xs) (str_to_ascii_lowercase ys)).0 h)

pub lower_same : (xs ys : List ℕ) → Alike xs ys → str_to_ascii_lowercase xs ≡ str_to_ascii_lowercase ys
lower_same [] [] h = refl
lower_same [] (c ∷ cs) h = absurd h
lower_same (b ∷ bs) [] h = absurd h
lower_same (b ∷ bs) (c ∷ cs) h = two h.0 (lower_same bs cs h.1)
  where
    two : {x y : ℕ} {xs ys : List ℕ} → x ≡ y → xs ≡ ys → x ∷ xs ≡ y ∷ ys
    two {x} {y} {xs} {ys} e f = ap (λ (n : ℕ). n ∷ xs) e ∙ ap (λ (t : List ℕ). y ∷ t) f

pub alike_length : (xs ys : List ℕ) → Alike xs ys → length xs ≡ length ys
alike_length [] [] h = refl
alike_length [] (c ∷ cs) h = absurd h
alike_length (b ∷ bs) [] h = absurd h
alike_length (b ∷ bs) (c ∷ cs) h = omega (arith, alike_length bs cs h.1)

pub alike_each : (p : ℕ → Bool) → Agrees p → (xs ys : List ℕ) → Alike xs ys → Each p xs → Each p ys
alike_each p same [] [] h each = tt
alike_each p same [] (c ∷ cs) h each = absurd h
alike_each p same (b ∷ bs) [] h each = absurd h
alike_each p same (b ∷ bs) (c ∷ cs) h each = (sym (same b c h.0) ∙ each.0, alike_each p same bs cs h.1 each.1)

pub alike_word : (xs ys : List ℕ) → Alike xs ys → IsWord xs → IsWord ys
alike_word xs ys h word = (omega (arith, alike_length xs ys h, word.0), alike_each is_word_byte word_agrees xs ys h word.1)

-- cut where the other text is cut
pub record CutAlike (xs ys zs : List ℕ) : Type 0 where
  pub prefix : List ℕ
  pub back : List ℕ
  pub parts : zs ≡ prefix ++ back
  pub is_prefix : Alike xs prefix
  pub is_back : Alike ys back

pub cut_alike : (xs ys zs : List ℕ) → Alike (xs ++ ys) zs → CutAlike xs ys zs
cut_alike [] ys zs h = record { prefix = []; back = zs; parts = refl; is_prefix = tt; is_back = h }
cut_alike (x ∷ xs) ys [] h = absurd h
cut_alike (x ∷ xs) ys (z ∷ zs) h =
    let c : CutAlike xs ys zs = cut_alike xs ys zs h.1 in
    record { prefix = z ∷ c.prefix; back = c.back; parts = ap (λ (t : List ℕ). z ∷ t) c.parts; is_prefix = (h.0, c.is_prefix); is_back = c.is_back }

-- a byte that is no letter stays
pub alike_byte : (b : ℕ) (bs zs : List ℕ) → (IsLetter b → ⊥) → Alike (b ∷ bs) zs → (cs : List ℕ) × (zs ≡ b ∷ cs) × Alike bs cs
alike_byte b bs [] not_letter h = absurd h
alike_byte b bs (c ∷ cs) not_letter h = elim (same_or_letters b c h.0) [
  | inl same ↦ (cs, ap (λ (n : ℕ). n ∷ cs) (sym same), h.1)
  | inr both ↦ absurd (not_letter both.0)
]

pub alike_nothing : (zs : List ℕ) → Alike [] zs → zs ≡ []
alike_nothing [] h = refl
alike_nothing (c ∷ cs) h = absurd h

-- ---- digits

pub digits_alike : (xs ys : List ℕ) → Alike xs ys → list_all is_ascii_digit xs ≡ list_all is_ascii_digit ys
digits_alike [] [] h = refl
digits_alike [] (c ∷ cs) h = absurd h
digits_alike (b ∷ bs) [] h = absurd h
digits_alike (b ∷ bs) (c ∷ cs) h = two (digit_agrees b c h.0) (digits_alike bs cs h.1)
  where
    two : {a b c d : Bool} → a ≡ c → b ≡ d → (a && b) ≡ (c && d)
    two {a} {b} {c} {d} e f = ap (λ (x : Bool). x && b) e ∙ ap (λ (x : Bool). c && x) f

digit_stays : (b c : ℕ) → to_ascii_lowercase b ≡ to_ascii_lowercase c → is_ascii_digit b ≡ true → b ≡ c
digit_stays b c e is_digit = elim (same_or_letters b c e) [
  | inl same ↦ same
  | inr letters ↦ absurd (both_ways (is_ascii_digit b) (letter_digit b letters.0) is_digit)
]

pub digits_same : (xs ys : List ℕ) → Alike xs ys → list_all is_ascii_digit xs ≡ true → xs ≡ ys
digits_same [] [] h all = refl
digits_same [] (c ∷ cs) h all = absurd h
digits_same (b ∷ bs) [] h all = absurd h
digits_same (b ∷ bs) (c ∷ cs) h all =
    let d = and_parts (is_ascii_digit b) (list_all is_ascii_digit bs) all in
    ap (λ (n : ℕ). n ∷ bs) (digit_stays b c h.0 d.0) ∙ ap (λ (t : List ℕ). c ∷ t) (digits_same bs cs h.1 d.1)
