-- Digits after spaces, by how many spaces there are.
use Rattle.std.proofs.Common.{◌≡◌, ℕ, zero, suc, ◌+◌, ◌-◌, ◌≤◌, Bool, true, false, cond, List, [], ◌∷◌, length, take, drop, Option, None, refl, sym, ◌∙◌, arith}
use Rattle.std.specs.Prelude.{nat_lt, nat_le, if◌then◌else◌}
use Rattle.std.proofs.lemmas.Bool.Decides.{nat_tests}
use Rattle.std.proofs.lemmas.List.Sums.{prefix_len-le-length}
use Rattle.parsing_combinator.specs.Shape.{taken, nothing, is_space, space_count, digits_as, digits_between, after_spaces, spaced_between}
use Rattle.parsing_combinator.proofs.Longest.{taken_same, taken_after, taken_nothing}

-- what is taken, by the spaces at the start
abbrev pub taken_after_spaces : ℕ → ℕ → ℕ → List ℕ → Option (ℕ × List ℕ)
taken_after_spaces spaces n m bytes = if nat_lt spaces n then taken (digits_between (n - spaces) (m - spaces)) (drop spaces bytes) else None

none_at : (m : ℕ) (text : List ℕ) → spaced_between 0 m text ≡ nothing text
unfolding spaced_between nothing
none_at m text = let e : nat_lt (space_count text) 0 ≡ false = grind (arith, nat_tests) in rw e refl

-- what comes of the numbers past so many spaces
abbrev past : {A : Type 0} → (ℕ → ℕ → Option A) → ℕ → ℕ → ℕ → Option A
past f s n m = if nat_lt s n then f (n - s) (m - s) else None

past_none : {A : Type 0} → (f : ℕ → ℕ → Option A) (n m : ℕ) → past f 0 (suc n) m ≡ f (suc n) m
past_none f n m = grind (arith, nat_tests)

pub no_spaces : (n m : ℕ) (text : List ℕ) → after_spaces 0 (suc n) m text ≡ digits_between (suc n) m text
no_spaces n m text = past_none (λ n m. digits_between n m text) n m

pub no_text : (n m : ℕ) → digits_between (suc n) m [] ≡ None
unfolding digits_as
no_text n m = let e : nat_le (suc n) 0 ≡ false = grind (arith, nat_tests) in rw e refl

empty_at : (n m : ℕ) → spaced_between (suc n) (suc m) [] ≡ None
unfolding spaced_between
empty_at n m = no_spaces n (suc m) [] ∙ no_text n (suc m)

space_at : (n m c : ℕ) (text : List ℕ) → is_space c ≡ true → spaced_between (suc n) (suc m) (c ∷ text) ≡ spaced_between n m text
unfolding spaced_between
space_at n m c text e = grind (arith, nat_tests)

bare_at : (n m c : ℕ) (cs : List ℕ) (j : ℕ) → is_space c ≡ false → spaced_between (suc n) m (take j (c ∷ cs)) ≡ digits_between (suc n) m (take j (c ∷ cs))
unfolding spaced_between
bare_at n m c cs j e = grind (arith, nat_tests)

taken_no_spaces : (n m : ℕ) (bytes : List ℕ) → taken_after_spaces 0 (suc n) m bytes ≡ taken (digits_between (suc n) m) bytes
taken_no_spaces n m bytes = past_none (λ n m. taken (digits_between n m) bytes) n m

step : (b : Bool) (n m c : ℕ) (cs : List ℕ) → is_space c ≡ b → n ≤ m → taken (spaced_between n m) cs ≡ taken_after_spaces (space_count cs) n m cs → taken (spaced_between (suc n) (suc m)) (c ∷ cs) ≡ taken_after_spaces (cond b (1 + space_count cs) 0) (suc n) (suc m) (c ∷ cs)
step b n m c cs e le more = grind (arith, nat_tests, taken_after, empty_at, space_at, taken_same, bare_at)

empty_same : (n m j : ℕ) → spaced_between (suc n) m (take j []) ≡ digits_between (suc n) m (take j [])
unfolding spaced_between
empty_same n m j = grind (arith, nat_tests)

none_taken : (s m : ℕ) (bytes : List ℕ) → taken_after_spaces s 0 m bytes ≡ None
none_taken s m bytes = let e : nat_lt s 0 ≡ false = grind (arith, nat_tests) in rw e refl

pub taken_spaced : (n m : ℕ) (bytes : List ℕ) → n ≤ m → taken (spaced_between n m) bytes ≡ taken_after_spaces (space_count bytes) n m bytes
taken_spaced zero m bytes le = taken_same (spaced_between 0 m) nothing bytes (λ j a. none_at m (take j bytes)) ∙ taken_nothing bytes ∙ sym (none_taken (space_count bytes) m bytes)
taken_spaced (suc n) zero bytes le = absurd (omega arith)
taken_spaced (suc n) (suc m) [] le = taken_same (spaced_between (suc n) (suc m)) (digits_between (suc n) (suc m)) [] (λ j a. empty_same n (suc m) j) ∙ sym (taken_no_spaces n (suc m) [])
taken_spaced (suc n) (suc m) (c ∷ cs) le = step (is_space c) n m c cs refl (omega arith) (taken_spaced n m cs (omega arith))

pub space_count_within : (bytes : List ℕ) → space_count bytes ≤ length bytes
space_count_within bytes = prefix_len-le-length is_space bytes
