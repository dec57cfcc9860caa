-- Lanes of vectors.
use Rattle.std.proofs.Common.{◌≡◌, ◌≤◌, ◌<◌, ◌+◌, ◌-◌, ◌*◌, ◌%◌, ◌∙◌, ℕ, Bool, true, false, cond, List, [], ◌∷◌, length, get_or, refl, sym, ap, arith, w8, inl, inr}
use Rattle.std.specs.Prelude.{nat_le, nat_eq, replicate}
use Rattle.std.proofs.lemmas.Bool.{cases_lt, agree_below_at}
use Rattle.std.proofs.lemmas.Bool.Decides.{nat_tests}
use Rattle.std.proofs.lemmas.Simd.{get_or-zip2, length-zip2, get_or-replicate, length-replicate, tops_compared, get_or-sel_l, swz_l}
use Rattle.parsing_places.specs.Lanes.{are_moves}
use Rattle.parsing_places.proofs.LaneLemmas.{moves_all, taken_lane}
use lib.Lanes.{zip2, top, sel_l}
use mathlib.Core.List.{map}

-- ---- numbers of two digits

abbrev plus : ℕ → ℕ → ℕ
plus a b = (a + b) % 256

abbrev adds : List ℕ → List ℕ → List ℕ
adds = zip2 plus

long : (xs ys : List ℕ) → length xs ≡ 16 → length ys ≡ 16 → length (adds xs ys) ≡ 16
long xs ys n m = length-zip2 plus xs ys (n ∙ sym m) ∙ n

add_at : (xs ys : List ℕ) (k : ℕ) → length xs ≡ 16 → length ys ≡ 16 → k < 16 → get_or (adds xs ys) k 0 ≡ plus (get_or xs k 0) (get_or ys k 0)
add_at xs ys k n m lt = get_or-zip2 plus xs ys k 0 0 0 (omega (arith, n, lt)) (omega (arith, m, lt))

pub number_lane : (t o : List ℕ) (k : ℕ) → length t ≡ 16 → length o ≡ 16 → k < 16 → get_or t k 0 * 10 + get_or o k 0 < 256
    → get_or (adds (adds (adds (adds (adds t t) (adds t t)) (adds (adds t t) (adds t t))) (adds t t)) o) k 0 ≡ get_or t k 0 * 10 + get_or o k 0
number_lane t o k n m lt small = grind (arith, nat_tests, long, add_at)

-- ---- lanes of two vectors

pub put_lane : (js ls ns : List ℕ) (k : ℕ) → length js ≡ 16 → length ls ≡ 16 → length ns ≡ 16 → k < 16
    → get_or (sel_l (map (top 7) (zip2 (λ a b. cond (nat_le a b) 255 0) (replicate 16 128) js)) ls ns) k 0 ≡ cond (nat_le 128 (get_or js k 0)) (get_or ls k 0) (get_or ns k 0)
put_lane js ls ns k n m o lt =
    let large : List ℕ = replicate 16 128 in
    let sixteen : length large ≡ 16 = length-replicate {A = ℕ} 16 128 in
    let bits : List Bool = zip2 nat_le large js in
    let size : length bits ≡ 16 = length-zip2 nat_le large js (sixteen ∙ sym n) ∙ sixteen in
    let there : get_or bits k false ≡ nat_le (get_or large k 0) (get_or js k 0) = get_or-zip2 nat_le large js k 0 0 false (omega (arith, sixteen, lt)) (omega (arith, n, lt)) in
    let limit : get_or large k 0 ≡ 128 = get_or-replicate {A = ℕ} 16 k 128 0 lt in
    ap (λ ms. get_or (sel_l ms ls ns) k 0) (tops_compared w8 nat_le large js) ∙ get_or-sel_l bits ls ns k 0 (omega (arith, size, lt)) (omega (arith, m, lt)) (omega (arith, o, lt))
    ∙ ap (λ b. cond b (get_or ls k 0) (get_or ns k 0)) (there ∙ ap (λ a. nat_le a (get_or js k 0)) limit)

pub small_there : (j a b : ℕ) → j < 128 → cond (nat_le 128 j) a b ≡ b
small_there j a b lt = grind (arith, nat_tests)

pub large_there : (j a b : ℕ) → 128 ≤ j → cond (nat_le 128 j) a b ≡ a
large_there j a b le = grind (arith, nat_tests)

-- ---- lanes that are moved

-- all lanes in order, and then as many that take nothing
abbrev pub down : List ℕ
down = 0 ∷ 1 ∷ 2 ∷ 3 ∷ 4 ∷ 5 ∷ 6 ∷ 7 ∷ 8 ∷ 9 ∷ 10 ∷ 11 ∷ 12 ∷ 13 ∷ 14 ∷ 15 ∷ 128 ∷ 128 ∷ 128 ∷ 128 ∷ 128 ∷ 128 ∷ 128 ∷ 128 ∷ 128 ∷ 128 ∷ 128 ∷ 128 ∷ 128 ∷ 128 ∷ 128 ∷ 128 ∷ []

down_at : (k : ℕ) → k < 16 → get_or down k 0 ≡ k
down_at k lt = let h = agree_below_at (λ k. nat_eq (get_or down k 0) k) (λ _. true) 16 k refl lt in grind (arith, nat_tests, h)

down_past : (k : ℕ) → 16 ≤ k → k < 32 → get_or down k 0 ≡ 128
down_past k le lt =
    let h = agree_below_at (λ j. nat_eq (get_or down (16 + j) 0) 128) (λ _. true) 16 (k - 16) refl (omega (arith, le, lt)) in
    grind (arith, nat_tests)

-- a vector of them from one on
abbrev pub IsRow : List ℕ → ℕ → Type 0
IsRow js by = (k : ℕ) → k < 16 → get_or js k 0 ≡ get_or down (by + k) 0

one_right : (js : List ℕ) (by k : ℕ) → IsRow js by → by ≤ 16 → k < 16 → 16 ≤ get_or js k 0 → 128 ≤ get_or js k 0
one_right js by k row le lt large = elim (cases_lt (by + k) 16) [
  | inl near ↦ absurd (omega (arith, large, row k lt, down_at (by + k) near, near))
  | inr far ↦ omega (arith, row k lt, down_past (by + k) far (omega (arith, le, lt)))
]

pub row_right : (js : List ℕ) (by : ℕ) → length js ≡ 16 → IsRow js by → by ≤ 16 → are_moves js ≡ true
row_right js by n row le = moves_all js (λ k lt large. one_right js by k row le (omega (arith, lt, n)) large)

pub moved_lane : (bytes js : List ℕ) (by k : ℕ) → length js ≡ 16 → IsRow js by → by + k < 16 → get_or (swz_l w8 16 bytes 0 js) k 0 ≡ get_or bytes (by + k) 0
moved_lane bytes js by k n row lt = grind (arith, nat_tests, taken_lane)
