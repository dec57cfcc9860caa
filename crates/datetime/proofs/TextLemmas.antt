-- The texts of timestamps: each is that of one instant, and none has a zero at the end of a fraction.
use Rattle.std.proofs.Common.{◌≡◌, ℕ, ◌+◌, ◌/◌, ◌%◌, ◌^◌, ◌<◌, inl, inr, ◌⊎◌, refl, sym, ap, ◌∙◌, arith, ℤ, pos, ◌≤ℤ◌, ◌<ℤ◌, unsigned_abs, true, false, Bool, List, [], ◌∷◌, ◌++◌, zero, suc, get_or, length, take, drop, append-nil}
use Rattle.std.specs.Prelude.{if◌then◌else◌, int_lt, codes, ◌==◌}
use Rattle.std.specs.List.{list_all}
use Rattle.std.specs.Fmt.{decimal}
use Rattle.std.proofs.lemmas.Bool.Decides.{nat_tests}
use Rattle.std.proofs.lemmas.Fmt.{decimal_by_steps, decimal_digit, decimal_injective, decimal_nonempty}
use Rattle.std.proofs.lemmas.Int.{ints}
use Rattle.std.proofs.lemmas.List.{append_cancel_left}
use Rattle.calendar_count.proofs.lemmas.Signed.{signed, one_sided}
use Rattle.calendar_count.specs.Digits.{three_digits, nine_digits, without_zeros}
use Rattle.datetime_wall.specs.Wall.{second_nanos, IsWallClock}
use Rattle.datetime_types.specs.Texts.{fraction_text, seconds_text}

-- bytes above the sign and the point
unfoldable Digits : List ℕ → Type 0
Digits [] = Unit {0}
Digits (d ∷ ds) = (46 < d) × Digits ds

Digits-append : (xs ys : List ℕ) → Digits xs → Digits ys → Digits (xs ++ ys)
unfolding Digits
Digits-append [] ys h k = k
Digits-append (x ∷ xs) ys h k = (h.0, Digits-append xs ys h.1 k)

decimal_digits : (n : ℕ) → n < 2 ^ 64 → Digits (decimal n)
unfolding Digits
decimal_digits n h =
    decimal_by_steps (λ n ds. Digits ds) (λ n small. (omega arith, tt)) (λ n ds large rest. Digits-append ds ((48 + n % 10) ∷ []) rest (omega arith, tt)) n h

-- what stands after digits: nothing, or a point and more
unfoldable Fraction : List ℕ → Type 0
Fraction [] = Unit {0}
Fraction (x ∷ xs) = x ≡ 46

told : (b : Bool) → (b ≡ true) ⊎ (b ≡ false)
told true = inl refl
told false = inr refl

fraction_none : (n : ℕ) → n ≡ 0 → fraction_text n ≡ []
fraction_none n e = rw e refl

fraction_some : (n : ℕ) → 0 < n → fraction_text n ≡ 46 ∷ without_zeros (nine_digits n)
fraction_some n h = let test : (n == 0) ≡ false = grind (arith, nat_tests) in rw test refl

zero_or : (n : ℕ) → (n ≡ 0) ⊎ (0 < n)
zero_or zero = inl refl
zero_or (suc n) = inr (omega arith)

fraction_is : (n : ℕ) → Fraction (fraction_text n)
unfolding Fraction
fraction_is n = elim (zero_or n) [
  | inl e ↦ rw (fraction_none n e) tt
  | inr h ↦ rw (fraction_some n h) refl
]

-- so the digits and what stands after them are told apart
cut_first : (ds es xs ys : List ℕ) → Digits ds → Digits es → Fraction xs → Fraction ys → ds ++ xs ≡ es ++ ys → ds ≡ es
unfolding Digits Fraction
cut_first [] [] xs ys h k f g e = refl
cut_first [] (d ∷ es) [] ys h k f g e = let same = e in absurd (cc)
cut_first [] (d ∷ es) (x ∷ xs) ys h k f g e = let same : x ≡ d = ap (λ l. get_or l 0 0) e in absurd (omega (arith, same, f, k.0))
cut_first (d ∷ ds) [] xs [] h k f g e = let same = e in absurd (cc)
cut_first (d ∷ ds) [] xs (y ∷ ys) h k f g e = let same : d ≡ y = ap (λ l. get_or l 0 0) e in absurd (omega (arith, same, g, h.0))
cut_first (d ∷ ds) (c ∷ es) xs ys h k f g e =
    let first : d ≡ c = cc in
    let rest : ds ++ xs ≡ es ++ ys = cc in
    rw first (ap (λ l. c ∷ l) (cut_first ds es xs ys h.1 k.1 f g rest))

-- ---- fractions

abbrev zeros : List ℕ → Bool
zeros ds = list_all (λ d. d == 48) ds

zero_first : (x : ℕ) (xs : List ℕ) → zeros (x ∷ xs) ≡ true → (x ≡ 48) × (zeros xs ≡ true)
zero_first x xs h = (grind (arith, nat_tests), grind (arith, nat_tests))

zeros_same : (xs ys : List ℕ) → zeros xs ≡ true → zeros ys ≡ true → length xs ≡ length ys → xs ≡ ys
zeros_same [] [] h k e = refl
zeros_same [] (y ∷ ys) h k e = absurd (omega (arith, e))
zeros_same (x ∷ xs) [] h k e = absurd (omega (arith, e))
zeros_same (x ∷ xs) (y ∷ ys) h k e =
    let first = zero_first x xs h in
    let other = zero_first y ys k in
    rw (first.0, other.0) (ap (λ l. 48 ∷ l) (zeros_same xs ys first.1 other.1 (omega (arith, e))))

some_digit : (xs : List ℕ) → zeros xs ≡ false → without_zeros xs ≡ [] → ⊥
unfolding without_zeros
some_digit [] h e = let same = h in cc
some_digit (x ∷ xs) h e = let same = e in cc

-- digits of one width come back when the zeros at their end are left out
without_zeros_same : (xs ys : List ℕ) → length xs ≡ length ys → without_zeros xs ≡ without_zeros ys → xs ≡ ys
unfolding without_zeros
without_zeros_same [] [] e same = refl
without_zeros_same [] (y ∷ ys) e same = absurd (omega (arith, e))
without_zeros_same (x ∷ xs) [] e same = absurd (omega (arith, e))
without_zeros_same (x ∷ xs) (y ∷ ys) e same =
    let first : x ≡ y = ap (λ l. get_or l 0 0) same in
    let tail : (if zeros xs then [] else without_zeros xs) ≡ (if zeros ys then [] else without_zeros ys) = ap (λ l. drop 1 l) same in
    let lengths : length xs ≡ length ys = omega (arith, e) in
    let rest : xs ≡ ys = elim (told (zeros xs)) [
      | inl a ↦ elim (told (zeros ys)) [
        | inl b ↦ zeros_same xs ys a b lengths
        | inr b ↦ absurd (some_digit ys b (sym (rw (a, b) at tail)))
      ]
      | inr a ↦ elim (told (zeros ys)) [
        | inl b ↦ absurd (some_digit xs a (rw (a, b) at tail))
        | inr b ↦ without_zeros_same xs ys lengths (rw (a, b) at tail)
      ]
    ] in
    rw first (ap (λ l. y ∷ l) rest)

three_same : (a b : ℕ) → a < 1000 → b < 1000 → three_digits a ≡ three_digits b → a ≡ b
three_same a b h k e =
    let hundreds : 48 + a / 100 ≡ 48 + b / 100 = ap (λ l. get_or l 0 0) e in
    let tens : 48 + a / 10 % 10 ≡ 48 + b / 10 % 10 = ap (λ l. get_or l 1 0) e in
    let ones : 48 + a % 10 ≡ 48 + b % 10 = ap (λ l. get_or l 2 0) e in
    omega (arith, hundreds, tens, ones)

nine_same : (a b : ℕ) → a < second_nanos → b < second_nanos → nine_digits a ≡ nine_digits b → a ≡ b
nine_same a b h k e =
    let millis : three_digits (a / 1_000_000) ≡ three_digits (b / 1_000_000) = ap (λ l. take 3 l) e in
    let micros : three_digits (a / 1000 % 1000) ≡ three_digits (b / 1000 % 1000) = ap (λ l. take 3 (drop 3 l)) e in
    let nanos : three_digits (a % 1000) ≡ three_digits (b % 1000) = ap (λ l. drop 6 l) e in
    omega (arith, three_same _ _ (omega arith) (omega arith) millis, three_same _ _ (omega arith) (omega arith) micros, three_same _ _ (omega arith) (omega arith) nanos)

fraction_same : (a b : ℕ) → a < second_nanos → b < second_nanos → fraction_text a ≡ fraction_text b → a ≡ b
fraction_same a b h k e = elim (zero_or a) [
  | inl none ↦ elim (zero_or b) [
    | inl nothing ↦ omega (arith, none, nothing)
    | inr some ↦ absurd (let same = rw (fraction_none a none, fraction_some b some) at e in cc)
  ]
  | inr some ↦ elim (zero_or b) [
    | inl nothing ↦ absurd (let same = rw (fraction_some a some, fraction_none b nothing) at e in cc)
    | inr other ↦
        let tail : without_zeros (nine_digits a) ≡ without_zeros (nine_digits b) = ap (λ l. drop 1 l) (rw (fraction_some a some, fraction_some b other) at e) in
        nine_same a b h k (without_zeros_same (nine_digits a) (nine_digits b) refl tail)
  ]
]

-- ---- whole texts

-- the seconds and the fraction of a length
abbrev length_text : ℕ → List ℕ
length_text n = decimal (n / second_nanos) ++ fraction_text (n % second_nanos)

length_same : (a b : ℕ) → a / second_nanos < 2 ^ 64 → b / second_nanos < 2 ^ 64 → length_text a ≡ length_text b → a ≡ b
length_same a b h k e =
    let whole : decimal (a / second_nanos) ≡ decimal (b / second_nanos) = cut_first _ _ _ _ (decimal_digits _ h) (decimal_digits _ k) (fraction_is (a % second_nanos)) (fraction_is (b % second_nanos)) e in
    let seconds = decimal_injective _ _ h k whole in
    let rest : fraction_text (a % second_nanos) ≡ fraction_text (b % second_nanos) = append_cancel_left (decimal (b / second_nanos)) _ _ (rw whole at e) in
    let nanoseconds = fraction_same (a % second_nanos) (b % second_nanos) (omega arith) (omega arith) rest in
    omega (arith, seconds, nanoseconds)

-- no digits begin with a minus
no_minus : (ds xs ys : List ℕ) → Digits ds → 0 < length ds → ds ++ xs ≡ 45 ∷ ys → ⊥
unfolding Digits
no_minus [] xs ys h k e = absurd (omega (arith, k))
no_minus (d ∷ ds) xs ys h k e = let same : d ≡ 45 = ap (λ l. get_or l 0 0) e in omega (arith, same, h.0)

length_no_minus : (n : ℕ) (ys : List ℕ) → n / second_nanos < 2 ^ 64 → length_text n ≡ 45 ∷ ys → ⊥
length_no_minus n ys h e = no_minus (decimal (n / second_nanos)) _ ys (decimal_digits _ h) (decimal_nonempty _ h) e

small : (i : ℤ) → IsWallClock i → unsigned_abs i / second_nanos < 2 ^ 64
small i h = omega (arith, signed, h)

below : (i : ℤ) → int_lt i (pos 0) ≡ true → i <ℤ pos 0
below i h = grind (arith, nat_tests, ints)

above : (i : ℤ) → int_lt i (pos 0) ≡ false → pos 0 ≤ℤ i
above i h = grind (arith, nat_tests, ints)

text_below : (i : ℤ) → int_lt i (pos 0) ≡ true → seconds_text i ≡ 45 ∷ length_text (unsigned_abs i)
text_below i h = rw h refl

text_above : (i : ℤ) → int_lt i (pos 0) ≡ false → seconds_text i ≡ length_text (unsigned_abs i)
text_above i h = rw h refl

pub distinct : (i j : ℤ) → IsWallClock i → IsWallClock j → seconds_text i ≡ seconds_text j → i ≡ j
distinct i j h k e = elim (told (int_lt i (pos 0))) [
  | inl a ↦ elim (told (int_lt j (pos 0))) [
    | inl b ↦
        let tail : length_text (unsigned_abs i) ≡ length_text (unsigned_abs j) = ap (λ l. drop 1 l) (rw (text_below i a, text_below j b) at e) in
        let same = length_same _ _ (small i h) (small j k) tail in
        omega (arith, signed, same, below i a, below j b, one_sided i, one_sided j)
    | inr b ↦ absurd (length_no_minus (unsigned_abs j) _ (small j k) (sym (rw (text_below i a, text_above j b) at e)))
  ]
  | inr a ↦ elim (told (int_lt j (pos 0))) [
    | inl b ↦ absurd (length_no_minus (unsigned_abs i) _ (small i h) (rw (text_above i a, text_below j b) at e))
    | inr b ↦
        let same = length_same _ _ (small i h) (small j k) (rw (text_above i a, text_above j b) at e) in
        omega (arith, signed, same, above i a, above j b, one_sided i, one_sided j)
  ]
]

-- ---- what no text has

last_of : ℕ → List ℕ → ℕ
last_of d [] = d
last_of d (x ∷ xs) = last_of x xs

last_of-append : (d : ℕ) (xs ys : List ℕ) → last_of d (xs ++ ys) ≡ last_of (last_of d xs) ys
unfolding last_of
last_of-append d [] ys = refl
last_of-append d (x ∷ xs) ys = last_of-append x xs ys

last_digit : (d : ℕ) (xs : List ℕ) → zeros xs ≡ false → last_of d (without_zeros xs) ≡ 48 → ⊥
unfolding last_of without_zeros
last_digit d [] h e = let same = h in cc
last_digit d (x ∷ xs) h e = elim (told (zeros xs)) [
  | inl a ↦
      let last : x ≡ 48 = rw a at e in
      let all : zeros (x ∷ xs) ≡ true = rw (last, a) refl in
      let same = sym all ∙ h in cc
  | inr a ↦ last_digit x xs a (rw a at e)
]

not_zeros : (n : ℕ) → 0 < n → n < second_nanos → zeros (nine_digits n) ≡ false
not_zeros n h k = elim (told (zeros (nine_digits n))) [
  | inl a ↦ absurd (omega (arith, nine_same n 0 k (omega arith) (zeros_same (nine_digits n) (nine_digits 0) a refl refl)))
  | inr a ↦ a
]

-- bytes among which there is no point
unfoldable Pointless : List ℕ → Type 0
Pointless [] = Unit {0}
Pointless (d ∷ ds) = (d ≡ 46 → ⊥) × Pointless ds

digits_pointless : (ds : List ℕ) → Digits ds → Pointless ds
unfolding Digits Pointless
digits_pointless [] h = tt
digits_pointless (d ∷ ds) h = (λ e. omega (arith, e, h.0), digits_pointless ds h.1)

point_found : (prefix back : List ℕ) → Pointless (prefix ++ 46 ∷ back) → ⊥
unfolding Pointless
point_found [] back h = h.0 refl
point_found (x ∷ prefix) back h = point_found prefix back h.1

pointless_text : (i : ℤ) → IsWallClock i → unsigned_abs i % second_nanos ≡ 0 → Pointless (seconds_text i)
unfolding Pointless
pointless_text i h none =
    let whole = decimal (unsigned_abs i / second_nanos) in
    let plain : length_text (unsigned_abs i) ≡ whole = rw (fraction_none _ none) (append-nil whole) in
    let digits = digits_pointless whole (decimal_digits _ (small i h)) in
    elim (told (int_lt i (pos 0))) [
      | inl a ↦ rw (text_below i a, plain) (λ e. omega (arith, e), digits)
      | inr a ↦ rw (text_above i a, plain) digits
    ]

pub no_zero_at_end : (i : ℤ) → IsWallClock i → (prefix back : List ℕ) → seconds_text i ≡ prefix ++ 46 ∷ (back ++ 48 ∷ []) → ⊥
unfolding last_of
no_zero_at_end i h prefix back e = elim (zero_or (unsigned_abs i % second_nanos)) [
  | inl none ↦ point_found prefix (back ++ 48 ∷ []) (rw e at (pointless_text i h none))
  | inr some ↦
      let digits = without_zeros (nine_digits (unsigned_abs i % second_nanos)) in
      let sign : List ℕ = if int_lt i (pos 0) then codes "-" else [] in
      let text : seconds_text i ≡ (sign ++ decimal (unsigned_abs i / second_nanos)) ++ 46 ∷ digits = rw (fraction_some _ some) refl in
      let ends : last_of 0 (seconds_text i) ≡ last_of 46 digits = rw text (last_of-append 0 (sign ++ decimal (unsigned_abs i / second_nanos)) (46 ∷ digits)) in
      let zero : last_of 0 (seconds_text i) ≡ 48 = rw e (last_of-append 0 prefix (46 ∷ (back ++ 48 ∷ [])) ∙ last_of-append 46 back (48 ∷ [])) in
      last_digit 46 (nine_digits (unsigned_abs i % second_nanos)) (not_zeros _ some (omega arith)) (sym ends ∙ zero)
]

pub no_negative_zero : (i : ℤ) → IsWallClock i → seconds_text i ≡ codes "-0" → ⊥
no_negative_zero i h e = elim (told (int_lt i (pos 0))) [
  | inl a ↦
      let zero : length_text 0 ≡ 48 ∷ [] = rw (decimal_digit 0 (omega arith)) refl in
      let tail : length_text (unsigned_abs i) ≡ 48 ∷ [] = ap (λ l. drop 1 l) (rw (text_below i a) at e) in
      let same = length_same (unsigned_abs i) 0 (small i h) (omega arith) (tail ∙ sym zero) in
      omega (arith, signed, same, below i a, one_sided i)
  | inr a ↦ length_no_minus (unsigned_abs i) _ (small i h) (rw (text_above i a) at e)
]
