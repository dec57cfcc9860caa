-- Lanes of vectors.
use Rattle.std.proofs.Common.{◌≡◌, ◌≤◌, ◌<◌, ◌+◌, ◌*◌, ◌^◌, ◌/◌, ◌%◌, ◌∙◌, ℕ, suc, Bool, true, cond, List, [], ◌∷◌, length, get_or, take, drop, map, refl, sym, ap, arith, w8, lit<}
use Rattle.std.specs.Int.Bits.{bit_and}
use Rattle.std.specs.Prelude.{nat_le, nat_lt, nat_eq, replicate}
use Rattle.std.proofs.lemmas.Bool.{agree_below_at, eqb-true, leb-true}
use Rattle.std.proofs.lemmas.Bool.Decides.{nat_tests}
use Rattle.std.proofs.lemmas.List.{drop_more, length-map, get_or-map, take_all}
use Rattle.std.proofs.lemmas.Simd.{swz_l, get_or-swz_l, get_or_wider, get_or_narrower, below_from_Fits, get_or-zip2, length-zip2, mask_l-mod, bit_mask_l, get_or-replicate}
use Rattle.parsing_combinator.proofs.Lanes.{spelled, spelled_is}
use Rattle.parsing_places.specs.Lanes.{are_moves}
use lib.Dec.{T, ltb}
use lib.Lanes.{Each1, zip2, mask_l, top, dots, number_l, digits_l}
use mir.Val.{zeroes, Fits}
use mathlib.Core.Bool.{◌&&◌, ◌||◌}
use mir.ValLaws.{and_both}

pub each_moves : (js : List ℕ) → T (are_moves js) → Each1 (λ j. T (zeroes 16 w8 j || ltb j 16)) js
each_moves [] h = tt
each_moves (j ∷ js) h = let b = and_both (zeroes 16 w8 j || ltb j 16) (are_moves js) h in (b.0, each_moves js b.1)

-- ---- all lanes, one by one

expanded : (xs : List ℕ) → length xs ≡ 16 → xs ≡ spelled 16 0 xs
expanded xs n = sym (take_all 16 xs (omega (arith, n))) ∙ spelled_is 16 0 xs (omega (arith, n))

-- weights of lanes, and the sums under them
abbrev weights : List ℕ
weights = 1 ∷ 0 ∷ 64 ∷ 0 ∷ 60 ∷ 0 ∷ 1 ∷ 0 ∷ 60 ∷ 0 ∷ 1 ∷ 0 ∷ 1 ∷ 0 ∷ 64 ∷ 0 ∷ []

sum_at : (xs : List ℕ) (k : ℕ) → length xs ≡ 16 → get_or (dots xs weights) k 0 ≡ get_or (dots (spelled 16 0 xs) weights) k 0
sum_at xs k n = ap (λ v. get_or (dots v weights) k 0) (expanded xs n)

pub sums_are : (xs : List ℕ) → length xs ≡ 16 → (get_or (dots xs weights) 0 0 ≡ get_or xs 0 0 + 64 * get_or xs 2 0)
    × (get_or (dots xs weights) 1 0 ≡ 60 * get_or xs 4 0 + get_or xs 6 0) × (get_or (dots xs weights) 2 0 ≡ 60 * get_or xs 8 0 + get_or xs 10 0)
    × (get_or (dots xs weights) 3 0 ≡ get_or xs 12 0 + 64 * get_or xs 14 0)
sums_are xs n = (sum_at xs 0 n ∙ omega arith, sum_at xs 1 n ∙ omega arith, sum_at xs 2 n ∙ omega arith, sum_at xs 3 n ∙ omega arith)

-- ---- wider and narrower lanes

word_number : (xs : List ℕ) (i : ℕ) → i + 2 ≤ length xs → number_l 256 (take 2 (drop i xs)) ≡ get_or xs i 0 + get_or xs (i + 1) 0 * 256
word_number xs i le = ap (λ v. number_l 256 (take 2 v)) (drop_more xs i 0 (omega (arith, le)) ∙ ap (λ t. get_or xs i 0 ∷ t) (drop_more xs (i + 1) 0 (omega (arith, le)))) ∙ omega arith

pub word_at : (xs : List ℕ) (j : ℕ) → length xs ≡ 16 → Each1 (Fits w8) xs → j < 8 → get_or (digits_l 65536 8 (number_l 256 xs)) j 0 ≡ get_or xs (2 * j) 0 + get_or xs (2 * j + 1) 0 * 256
word_at xs j n fits lt = get_or_wider 256 2 65536 8 xs j refl (below_from_Fits w8 xs fits) lt ∙ word_number xs (2 * j) (omega (arith, n, lt))

pub byte_at : (xs : List ℕ) (j : ℕ) → Each1 (λ x. x < 65536) xs → j < 8 → get_or (digits_l 256 16 (number_l 65536 xs)) (2 * j) 0 ≡ get_or xs j 0 % 256
byte_at xs j fits lt =
    let same : 2 * j + 0 ≡ 2 * j = omega arith in
    let there = get_or_narrower 65536 2 256 16 xs j 0 refl fits (lit< tt) (omega (arith, lt)) in
    rw same at there ∙ omega arith

pub number_at : (d e : ℕ) → d ≤ 9 → e ≤ 9 → (d + e * 256) * 2561 % 2 ^ 16 / 256 % 256 ≡ d * 10 + e
number_at d e hd he = grind (arith, nat_tests)

abbrev times : ℕ → ℕ → ℕ
times a b = a * b % 2 ^ 16

abbrev shifted : ℕ → ℕ → ℕ
shifted a b = a / 2 ^ b

pub numbers_lane : (xs : List ℕ) (j : ℕ) → length xs ≡ 8 → j < 8 → get_or (zip2 shifted (zip2 times xs (replicate 8 2561)) (replicate 8 8)) j 0 ≡ get_or xs j 0 * 2561 % 2 ^ 16 / 256
numbers_lane xs j n lt =
    let tens : List ℕ = replicate 8 2561 in
    let long : length (zip2 times xs tens) ≡ 8 = length-zip2 times xs tens n ∙ n in
    let product = get_or-zip2 times xs tens j 0 0 0 (omega (arith, n, lt)) lt in
    get_or-zip2 shifted (zip2 times xs tens) (replicate 8 8) j 0 0 0 (omega (arith, long, lt)) lt ∙ rw (product, get_or-replicate {A = ℕ} 8 j 2561 0 lt, get_or-replicate {A = ℕ} 8 j 8 0 lt) refl

-- ---- lanes that are moved

pub taken_lane : (xs js : List ℕ) (k : ℕ) → length js ≡ 16 → k < 16 → get_or js k 0 < 16 → get_or (swz_l w8 16 xs 0 js) k 0 ≡ get_or xs (get_or js k 0) 0
taken_lane xs js k n lt small = grind (arith, nat_tests, get_or-swz_l)

pub no_lane : (xs js : List ℕ) (k : ℕ) → length js ≡ 16 → k < 16 → 128 ≤ get_or js k 0 → get_or (swz_l w8 16 xs 0 js) k 0 ≡ 0
no_lane xs js k n lt large = grind (arith, nat_tests, get_or-swz_l)

-- ---- a test of all lanes

abbrev pub tests : List ℕ → List ℕ → List ℕ
tests = zip2 (λ a b. cond (nat_le a b) 255 0)

three_true : (p q r : Bool) → top 7 (bit_and (bit_and (cond p 255 0) (cond q 255 0)) (cond r 255 0)) ≡ true → (p ≡ true) × (q ≡ true) × (r ≡ true)
three_true p q r e = grind (arith, nat_tests)

one_true : (p : Bool) → top 7 (cond p 255 0) ≡ true → p ≡ true
one_true p e = grind (arith, nat_tests)

abbrev is_at_most : ℕ → ℕ → ℕ
is_at_most a b = cond (nat_le a b) 255 0

tests_long : (xs ys : List ℕ) → length xs ≡ 16 → length ys ≡ 16 → length (tests xs ys) ≡ 16
tests_long xs ys n m = length-zip2 is_at_most xs ys (n ∙ sym m) ∙ n

test_at : (xs ys : List ℕ) (k : ℕ) → length xs ≡ 16 → length ys ≡ 16 → k < 16 → get_or (tests xs ys) k 0 ≡ cond (nat_le (get_or xs k 0) (get_or ys k 0)) 255 0
test_at xs ys k n m lt = get_or-zip2 is_at_most xs ys k 0 0 0 (omega (arith, n, lt)) (omega (arith, m, lt))

-- where all bits of a mask are set, each lane has its highest one
every_lane : (zs : List ℕ) (k : ℕ) → length zs ≡ 16 → nat_eq (mask_l (map (top 7) zs) % 18446744073709551616) 65535 ≡ true → k < 16 → top 7 (get_or zs k 0) ≡ true
every_lane zs k n e lt =
    let bits : List Bool = map (top 7) zs in
    let n4 : length bits ≡ 16 = length-map zs (top 7) ∙ n in
    let same = mask_l-mod bits 64 (omega (arith, n4)) in
    let all : mask_l bits % 18446744073709551616 ≡ 65535 = grind (arith, nat_tests, e) in
    let whole : mask_l bits ≡ 65535 = omega (arith, same, all) in
    let one = agree_below_at (λ k. nat_eq (65535 / 2 ^ k % 2) 1) (λ _. true) 16 k refl lt in
    grind (arith, nat_tests, bit_mask_l, get_or-map)

pub all_pass : (xs ys : List ℕ) → length xs ≡ 16 → length ys ≡ 16 → nat_eq (mask_l (map (top 7) (tests xs ys)) % 18446744073709551616) 65535 ≡ true
    → (k : ℕ) → k < 16 → get_or xs k 0 ≤ get_or ys k 0
all_pass xs ys n m e k lt = leb-true _ _ (one_true _ (sym (ap (top 7) (test_at xs ys k n m lt)) ∙ every_lane (tests xs ys) k (tests_long xs ys n m) e lt))

pub all_pass_three : (f fh s sh t th : List ℕ) → length f ≡ 16 → length fh ≡ 16 → length s ≡ 16 → length sh ≡ 16 → length t ≡ 16 → length th ≡ 16
    → nat_eq (mask_l (map (top 7) (zip2 bit_and (zip2 bit_and (tests f fh) (tests s sh)) (tests t th))) % 18446744073709551616) 65535 ≡ true
    → (k : ℕ) → k < 16 → (get_or f k 0 ≤ get_or fh k 0) × (get_or s k 0 ≤ get_or sh k 0) × (get_or t k 0 ≤ get_or th k 0)
all_pass_three f fh s sh t th nf nfh ns nsh nt nth e k lt =
    let one = tests_long f fh nf nfh in
    let two = tests_long s sh ns nsh in
    let three = tests_long t th nt nth in
    let both = zip2 bit_and (tests f fh) (tests s sh) in
    let nb : length both ≡ 16 = length-zip2 bit_and (tests f fh) (tests s sh) (one ∙ sym two) ∙ one in
    let na : length (zip2 bit_and both (tests t th)) ≡ 16 = length-zip2 bit_and both (tests t th) (nb ∙ sym three) ∙ nb in
    let is : get_or (zip2 bit_and both (tests t th)) k 0 ≡ bit_and (bit_and (cond (nat_le (get_or f k 0) (get_or fh k 0)) 255 0) (cond (nat_le (get_or s k 0) (get_or sh k 0)) 255 0)) (cond (nat_le (get_or t k 0) (get_or th k 0)) 255 0) =
    rw (get_or-zip2 bit_and both (tests t th) k 0 0 0 (omega (arith, nb, lt)) (omega (arith, three, lt)), get_or-zip2 bit_and (tests f fh) (tests s sh) k 0 0 0 (omega (arith, one, lt)) (omega (arith, two, lt)), test_at f fh k nf nfh lt, test_at s sh k ns nsh lt, test_at t th k nt nth lt) refl in
    let all = three_true (nat_le (get_or f k 0) (get_or fh k 0)) (nat_le (get_or s k 0) (get_or sh k 0)) (nat_le (get_or t k 0) (get_or th k 0)) (sym (ap (top 7) is) ∙ every_lane (zip2 bit_and both (tests t th)) k na e lt) in
    (leb-true _ _ all.0, leb-true _ _ all.1, leb-true _ _ all.2)

abbrev plus : ℕ → ℕ → ℕ
plus a b = (a + b) % 256

-- the byte `0` in nine lanes
abbrev nine_zeros : List ℕ
nine_zeros = 48 ∷ 48 ∷ 48 ∷ 48 ∷ 48 ∷ 48 ∷ 48 ∷ 48 ∷ 48 ∷ 0 ∷ 0 ∷ 0 ∷ 0 ∷ 0 ∷ 0 ∷ 0 ∷ []

pub text_at : (xs : List ℕ) (k : ℕ) → length xs ≡ 16 → k < 16 → get_or (zip2 plus xs nine_zeros) k 0 ≡ plus (get_or xs k 0) (cond (nat_lt k 9) 48 0)
text_at xs k n lt =
    let nine = eqb-true _ _ (agree_below_at (λ k. nat_eq (get_or nine_zeros k 0) (cond (nat_lt k 9) 48 0)) (λ _. true) 16 k refl lt) in
    get_or-zip2 plus xs nine_zeros k 0 0 0 (omega (arith, n, lt)) lt ∙ ap (plus (get_or xs k 0)) nine

-- the ninth byte alone is in the second half
pub ninth_alone : (xs : List ℕ) → length xs ≡ 16 → ((k : ℕ) → 9 ≤ k → k < 16 → get_or xs k 0 ≡ 0) → ((k : ℕ) → get_or xs k 0 < 256) → number_l 256 xs / 18446744073709551616 % 18446744073709551616 ≡ get_or xs 8 0
ninth_alone xs n zeros small =
    let whole : number_l 256 xs ≡ number_l 256 (get_or xs 0 0 ∷ get_or xs 1 0 ∷ get_or xs 2 0 ∷ get_or xs 3 0 ∷ get_or xs 4 0 ∷ get_or xs 5 0 ∷ get_or xs 6 0 ∷ get_or xs 7 0 ∷ get_or xs 8 0 ∷ 0 ∷ 0 ∷ 0 ∷ 0 ∷ 0 ∷ 0 ∷ 0 ∷ []) = ap (number_l 256) (expanded xs n) ∙ rw (zeros 9 (omega arith) (omega arith), zeros 10 (omega arith) (omega arith), zeros 11 (omega arith) (omega arith), zeros 12 (omega arith) (omega arith), zeros 13 (omega arith) (omega arith), zeros 14 (omega arith) (omega arith), zeros 15 (omega arith) (omega arith)) refl in
    omega (arith, small 0, small 1, small 2, small 3, small 4, small 5, small 6, small 7, small 8)

one_move : (j : ℕ) (rest : Bool) → (16 ≤ j → 128 ≤ j) → rest ≡ true → ((zeroes 16 w8 j || ltb j 16) && rest) ≡ true
one_move j rest h e = grind (arith, nat_tests)

pub moves_all : (js : List ℕ) → ((k : ℕ) → k < length js → 16 ≤ get_or js k 0 → 128 ≤ get_or js k 0) → are_moves js ≡ true
moves_all [] h = refl
moves_all (j ∷ js) h = one_move j (are_moves js) (h 0 (omega arith)) (moves_all js (λ k lt. h (suc k) (omega (arith, lt))))
