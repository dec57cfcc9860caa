-- The longest prefix, by what it is and by what the shape's parts say.
use Rattle.std.proofs.Common.{◌≡◌, ℕ, zero, suc, min, ◌+◌, ◌<◌, ◌≤◌, ◌&&◌, Bool, true, false, cond, List, [], ◌∷◌, length, take, drop, Option, Some, None, refl, sym, ap, ◌∙◌, arith, inl, inr, lit<, ◌^◌}
use Rattle.std.specs.Prelude.{option_map, nat_le, IfSome}
use Rattle.std.specs.List.{list_all}
use Rattle.std.specs.Char.{is_ascii_digit}
use Rattle.std.specs.Str.Parse.{digits_value}
use Rattle.std.proofs.lemmas.Bool.{cases_lt, le-leb, lt-leb}
use Rattle.std.proofs.lemmas.Bool.Decides.{nat_tests}
use Rattle.std.proofs.lemmas.List.{length-take-le, drop_all}
use Rattle.std.proofs.lemmas.List.Sums.{prefix_len-le-length}
use Rattle.std.proofs.Math.Seq.{take-length}
use Rattle.std.proofs.Math.Nat.{pow-le-pow_right}
use Rattle.parsing_combinator.specs.Pieces.{digit_count, digits, digit_run, fraction, nanoseconds_of}
use Rattle.parsing_combinator.specs.Shape.{Shape, or_before, greatest, prefix, taken, nothing, are_digits, digits_as, digits_between}

-- ---- the greatest number

pub greatest_is : {A : Type 0} → (f : ℕ → Option A) (x : A) (n k : ℕ) → k ≤ n → f k ≡ Some x → ((j : ℕ) → k < j → j ≤ n → f j ≡ None) → greatest f n ≡ Some x
greatest_is f x zero k le here above =
    let z : k ≡ 0 = omega arith in rw (sym z) here
greatest_is f x (suc n) k le here above =
    elim (cases_lt k (suc n)) [
      | inl lt ↦ rw (above (suc n) lt (omega arith)) (greatest_is f x n k (omega arith) here (λ j a b. above j a (omega arith)))
      | inr ge ↦ let z : k ≡ suc n = omega arith in rw (rw z at here) refl
    ]

pub greatest_none : {A : Type 0} → (f : ℕ → Option A) (n : ℕ) → ((j : ℕ) → j ≤ n → f j ≡ None) → greatest f n ≡ None
greatest_none f zero none = none 0 (omega arith)
greatest_none f (suc n) none = rw (none (suc n) (omega arith)) (greatest_none f n (λ j a. none j (omega arith)))

pub greatest_same : {A : Type 0} → (f g : ℕ → Option A) (n : ℕ) → ((j : ℕ) → j ≤ n → f j ≡ g j) → greatest f n ≡ greatest g n
greatest_same f g zero same = same 0 (omega arith)
greatest_same f g (suc n) same = rw (same (suc n) (omega arith), greatest_same f g n (λ j a. same j (omega arith))) refl

before_none : {A : Type 0} → (x : Option A) → or_before x None ≡ x
before_none x = grind (arith, nat_tests)

-- where nothing is found at any other number
pub greatest_at : {A : Type 0} → (f : ℕ → Option A) (n k : ℕ) → k ≤ n → ((j : ℕ) → j ≤ n → ¬ (j ≡ k) → f j ≡ None) → greatest f n ≡ f k
greatest_at f zero k le none = let z : k ≡ 0 = omega arith in rw z refl
greatest_at f (suc n) k le none =
    elim (cases_lt k (suc n)) [
      | inl lt ↦ rw (none (suc n) (omega arith) (λ e. omega arith)) (greatest_at f n k (omega arith) (λ j a. none j (omega arith)))
      | inr ge ↦ let z : k ≡ suc n = omega arith in rw (z, greatest_none f n (λ j a. none j (omega arith) (λ e. omega arith))) (before_none (f (suc n)))
    ]

-- where nothing is found at 0, what is found is found at a number after it
pub greatest_up : {A : Type 0} → (f : ℕ → Option A) (n : ℕ) → f 0 ≡ None → greatest f (suc n) ≡ greatest (λ k. f (suc k)) n
greatest_up f zero none = rw none (before_none (f 1))
greatest_up f (suc n) none = ap (or_before (f (suc (suc n)))) (greatest_up f n none)

map_before : {A B : Type 0} → (h : A → B) (x y : Option A) → or_before (option_map h x) (option_map h y) ≡ option_map h (or_before x y)
map_before h x y = grind (arith, nat_tests)

-- what is found passes through a function
pub greatest_map : {A B : Type 0} → (h : A → B) (f : ℕ → Option A) (n : ℕ) → greatest (λ k. option_map h (f k)) n ≡ option_map h (greatest f n)
greatest_map h f zero = refl
greatest_map h f (suc n) = ap (or_before (option_map h (f (suc n)))) (greatest_map h f n) ∙ map_before h (f (suc n)) (greatest f n)

-- ---- what is taken

pub taken_nothing : {A : Type 0} → (bytes : List ℕ) → taken {A = A} nothing bytes ≡ None
unfolding taken nothing
taken_nothing bytes = greatest_none (prefix nothing bytes) (length bytes) (λ j le. refl)

-- shapes that agree on the prefixes
pub taken_same : {A : Type 0} → (shape other : Shape A) (bytes : List ℕ) → ((j : ℕ) → j ≤ length bytes → shape (take j bytes) ≡ other (take j bytes)) → taken shape bytes ≡ taken other bytes
unfolding taken
taken_same shape other bytes same = greatest_same (prefix shape bytes) (prefix other bytes) (length bytes) (λ j le. ap (option_map (λ x. (x, drop j bytes))) (same j le))

-- a byte that all of the shape begin with
pub taken_after : {A : Type 0} → (shape other : Shape A) (c : ℕ) (cs : List ℕ) → shape [] ≡ None → ((text : List ℕ) → shape (c ∷ text) ≡ other text) → taken shape (c ∷ cs) ≡ taken other cs
unfolding taken
taken_after shape other c cs none same =
    greatest_up (prefix shape (c ∷ cs)) (length cs) (ap (option_map (λ x. (x, c ∷ cs))) none)
    ∙ greatest_same (λ k. prefix shape (c ∷ cs) (suc k)) (prefix other cs) (length cs) (λ j le. ap (option_map (λ x. (x, drop j cs))) (same (take j cs)))

-- ---- a run of digits

one_more : (b x : Bool) (j n : ℕ) → x ≡ nat_le j n → (b && x) ≡ nat_le (suc j) (cond b (1 + n) 0)
one_more b x j n e = grind (arith, nat_tests)

pub digits_at : (bytes : List ℕ) (j : ℕ) → j ≤ length bytes → list_all is_ascii_digit (take j bytes) ≡ nat_le j (digit_count bytes)
digits_at bytes zero le = grind (arith, nat_tests)
digits_at [] (suc j) le = absurd (omega arith)
digits_at (c ∷ cs) (suc j) le = one_more (is_ascii_digit c) (list_all is_ascii_digit (take j cs)) j (digit_count cs) (digits_at cs j (omega arith))

shape_at : (n m : ℕ) (bytes : List ℕ) (j : ℕ) → j ≤ length bytes → are_digits n m (take j bytes) ≡ (nat_le n j && nat_le j m && nat_le j (digit_count bytes))
shape_at n m bytes j le = rw (length-take-le j bytes le, digits_at bytes j le) refl

said : {A : Type 0} → (b : Bool) (value : List ℕ → A) (n m : ℕ) (bytes : List ℕ) (j : ℕ) → are_digits n m (take j bytes) ≡ b → prefix (digits_as value n m) bytes j ≡ cond b (Some (value (take j bytes), drop j bytes)) None
unfolding digits_as
said b value n m bytes j e = grind (arith, nat_tests)

-- as many digits as are there, up to m
abbrev pub run_of : {A : Type 0} → (List ℕ → A) → ℕ → List ℕ → A × List ℕ
run_of value k bytes = (value (take k bytes), drop k bytes)

pub taken_digits : {A : Type 0} → (value : List ℕ → A) (n m : ℕ) (bytes : List ℕ) → n ≤ m → taken (digits_as value n m) bytes ≡ cond (nat_le n (digit_count bytes)) (Some (run_of value (min (digit_count bytes) m) bytes)) None
unfolding taken
taken_digits value n m bytes le =
    let c = digit_count bytes in
    let short : c ≤ length bytes = prefix_len-le-length is_ascii_digit bytes in
    elim (cases_lt c n) [
      | inl few ↦ rw (lt-leb n c few) (greatest_none (prefix (digits_as value n m) bytes) (length bytes) (λ j a. said false value n m bytes j (shape_at n m bytes j a ∙ grind (arith, nat_tests))))
      | inr enough ↦
          rw (le-leb n c enough)
          (greatest_is (prefix (digits_as value n m) bytes) (run_of value (min c m) bytes) (length bytes) (min c m) (omega arith)
          (said true value n m bytes (min c m) (shape_at n m bytes (min c m) (omega arith) ∙ grind (arith, nat_tests)))
          (λ j a b. said false value n m bytes j (shape_at n m bytes j b ∙ grind (arith, nat_tests))))
    ]

-- exactly n digits
pub taken_exactly : (n : ℕ) (bytes : List ℕ) → taken (digits_between n n) bytes ≡ digits n bytes
unfolding digits
taken_exactly n bytes = grind (arith, nat_tests, taken_digits)

one_or_two : (c : ℕ) (bytes : List ℕ) → cond (nat_le 1 c) (Some (run_of (digits_value 10) (min c 2) bytes)) None ≡ or_before (cond (nat_le 2 c) (Some (run_of (digits_value 10) 2 bytes)) None) (cond (nat_le 1 c) (Some (run_of (digits_value 10) 1 bytes)) None)
one_or_two c bytes = grind (arith, nat_tests)

-- two digits where there are two, or else one
pub taken_one_or_two : (bytes : List ℕ) → taken (digits_between 1 2) bytes ≡ or_before (digits 2 bytes) (digits 1 bytes)
unfolding digits
taken_one_or_two bytes = taken_digits (digits_value 10) 1 2 bytes (omega arith) ∙ one_or_two (digit_count bytes) bytes

pub below_power : (x k m : ℕ) → x < 10 ^ k → k ≤ m → x < 10 ^ m
below_power x k m lt le = omega (arith, pow-le-pow_right {n = 10} (lit< tt) {i = k} {j = m} le)

pub taken_bound : (x k count m : ℕ) → x < 10 ^ k → k ≡ min count m → x < 10 ^ m
taken_bound x k count m lt e = below_power x k m lt (omega arith)

-- the fraction that digits alone write
pub whole_fraction : (text : List ℕ) → digit_count text ≡ length text → 0 < length text → fraction text ≡ Some (nanoseconds_of text, [])
unfolding fraction digit_run
whole_fraction text all some = grind (arith, nat_tests, take-length, drop_all)

-- a number below a power of ten is below a greater one
pub bound_up : {R : Type 0} → (o : Option (ℕ × R)) (k m : ℕ) → k ≤ m → IfSome o (λ x. x.0 < 10 ^ k) → IfSome o (λ x. x.0 < 10 ^ m)
bound_up None k m le bound = tt
bound_up (Some x) k m le bound = below_power x.0 k m bound le
