-- Lists of counts, from both ends.
use Rattle.std.proofs.Common.{arith, ℕ, zero, suc, [], ◌∷◌, ◌++◌, ◌≡◌, ◌+◌, ◌-◌, ◌<◌, ◌≤◌, length, take, drop, reverse, get_or, None, Some, All, Contains, refl, ap}
use Rattle.std.specs.List.{slice_get}
use Rattle.std.specs.List.Sorted.{IsNonDecreasing}
use Rattle.std.proofs.lemmas.Option.{slice_get-get_or, slice_get_past}
use Rattle.std.proofs.lemmas.List.{get_or-reverse, length-reverse}
use Rattle.std.proofs.lemmas.List.Elements.{All-from_get_or}
use Rattle.calendar_dates.specs.Days.{counts_from}

pub length_counts : (a n : ℕ) → length (counts_from a n) ≡ n
unfolding counts_from
length_counts a zero = refl
length_counts a (suc n) = omega (arith, length_counts (a + 1) n)

pub counts_none : (a n : ℕ) → n ≡ 0 → counts_from a n ≡ []
unfolding counts_from
counts_none a zero h = refl
counts_none a (suc n) h = absurd (omega arith)

pub counts_first : (a n k : ℕ) → n ≡ k + 1 → counts_from a n ≡ a ∷ counts_from (a + 1) k
unfolding counts_from
counts_first a zero k h = absurd (omega arith)
counts_first a (suc n) k h = let same : n ≡ k = omega arith in rw same refl

pub counts_last : (a n k : ℕ) → n ≡ k + 1 → counts_from a n ≡ counts_from a k ++ (a + k) ∷ []
unfolding counts_from
counts_last a zero k h = absurd (omega arith)
counts_last a (suc zero) k h = let same : k ≡ 0 = omega arith in rw same (let sum : a + 0 ≡ a = omega arith in rw sum refl)
counts_last a (suc (suc n)) zero h = absurd (omega arith)
counts_last a (suc (suc n)) (suc k) h =
    let sum : a + 1 + k ≡ a + suc k = omega arith in
    rw (← sum) (ap (λ xs. a ∷ xs) (counts_last (a + 1) (suc n) k (omega arith)))

-- the k-th item
pub counts_item : (a n k d : ℕ) → k < n → get_or (counts_from a n) k d ≡ a + k
unfolding counts_from
counts_item a zero k d h = absurd (omega arith)
counts_item a (suc n) zero d h = omega arith
counts_item a (suc n) (suc k) d h = omega (arith, counts_item (a + 1) n k d (omega arith))

pub counts_get : (a n k d : ℕ) → k < n → d ≡ a + k → slice_get (counts_from a n) k ≡ Some d
counts_get a n k d h e =
    let item : get_or (counts_from a n) k 0 ≡ d = omega (arith, counts_item a n k 0 h) in
    rw (← item) (slice_get-get_or (counts_from a n) k 0 (omega (arith, length_counts a n)))

-- and from the back
pub counts_get_back : (a n k d : ℕ) → k < n → d + k + 1 ≡ a + n → slice_get (reverse (counts_from a n)) k ≡ Some d
counts_get_back a n k d h e =
    let xs = counts_from a n in
    let long : length xs ≡ n = length_counts a n in
    let turned : get_or (reverse xs) k 0 ≡ get_or xs (length xs - 1 - k) 0 = get_or-reverse xs k 0 (omega arith) in
    let item : get_or (reverse xs) k 0 ≡ d = rw (turned, long) (omega (arith, counts_item a n (n - 1 - k) 0 (omega arith))) in
    rw (← item) (slice_get-get_or (reverse xs) k 0 (omega (arith, length-reverse xs)))

pub counts_get_past : (a n k : ℕ) → n ≤ k → slice_get (counts_from a n) k ≡ None
counts_get_past a n k h = slice_get_past (counts_from a n) k (omega (arith, length_counts a n))

pub counts_get_back_past : (a n k : ℕ) → n ≤ k → slice_get (reverse (counts_from a n)) k ≡ None
counts_get_back_past a n k h = slice_get_past (reverse (counts_from a n)) k (omega (arith, length_counts a n, length-reverse (counts_from a n)))

-- what is left after the first k
pub counts_drop : (a n k b m : ℕ) → b ≡ a + k → m ≡ n - k → drop k (counts_from a n) ≡ counts_from b m
unfolding counts_from
counts_drop a n zero b m e f = let same : m ≡ n = omega arith in let start : b ≡ a = omega arith in rw (same, start) refl
counts_drop a zero (suc k) b m e f = let none : m ≡ 0 = omega arith in rw none refl
counts_drop a (suc n) (suc k) b m e f = counts_drop (a + 1) n k b m (omega arith) (omega arith)

pub counts_drop_past : (a n k b : ℕ) → n ≤ k → drop k (counts_from a n) ≡ counts_from b 0
unfolding counts_from
counts_drop_past a n k b h = rw (counts_drop a n k (a + k) 0 refl (omega arith)) refl

-- the first k
pub counts_take : (a n k : ℕ) → k ≤ n → take k (counts_from a n) ≡ counts_from a k
unfolding counts_from
counts_take a n zero h = refl
counts_take a zero (suc k) h = absurd (omega arith)
counts_take a (suc n) (suc k) h = ap (λ xs. a ∷ xs) (counts_take (a + 1) n k (omega arith))

-- every item lies between the first and the last
pub counts_low : (a n : ℕ) → All (λ k. a ≤ k) (counts_from a n)
counts_low a n = All-from_get_or (λ k. a ≤ k) (counts_from a n) 0 (λ i h. omega (arith, counts_item a n i 0 (omega (arith, length_counts a n))))

pub counts_high : (a n d : ℕ) → d + 1 ≡ a + n → All (λ k. k ≤ d) (counts_from a n)
counts_high a n d e = All-from_get_or (λ k. k ≤ d) (counts_from a n) 0 (λ i h. let in_range : i < n = omega (arith, length_counts a n) in omega (arith, counts_item a n i 0 in_range))

pub counts_contain : (a n k d : ℕ) → k < n → d ≡ a + k → Contains (counts_from a n) d
counts_contain a n k d h e = (k, omega (arith, length_counts a n), omega (arith, counts_item a n k d h))

pub counts_sorted : (a n : ℕ) → IsNonDecreasing (counts_from a n)
counts_sorted a n i j d low high =
    let in_range : j < n = omega (arith, length_counts a n) in
    omega (arith, counts_item a n i d (omega arith), counts_item a n j d in_range)
