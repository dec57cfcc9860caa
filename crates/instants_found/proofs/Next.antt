-- Places at which no date begins, by bits and by what stands there.
use Rattle.std.proofs.Common.{◌≡◌, ◌<◌, ◌≤◌, ◌+◌, ◌-◌, ◌/◌, ◌^◌, ℕ, ◌%◌, List, sym, ◌∙◌, ap, subst, arith, w64}
use Rattle.std.specs.Int.{bit_at, trailing_zeros}
use Rattle.std.proofs.lemmas.Nat.{shr-shr}
use Rattle.std.proofs.lemmas.Nat.Bits.{bit_at-zero, bit_at-trailing_zeros}
use Rattle.instants_sources.specs.Grammar.{Grammar}
use Rattle.instants_found.specs.Starts.{HasNoDate, IsNoDate, MarkPlaces}
use Rattle.instants_found.proofs.NoDates.{none_more, none_here}

-- ---- from one place to another

module _ (sources : List Grammar) (line : List ℕ) where
  pub none_at_more : (from at : ℕ) → HasNoDate sources line from at → IsNoDate sources line at → HasNoDate sources line from (at + 1)
  none_at_more from at none here = none_more sources line from at (at + 1) none (none_here sources line at here)

  -- ---- bits for places

  -- the places of the bits below the lowest one that is set
  pub marks_passed : (from to bits n : ℕ) → MarkPlaces sources line from to bits → 0 < bits → bits < 2 ^ 64 → n ≤ trailing_zeros w64 bits → from + n ≤ to → HasNoDate sources line from (from + n)
  marks_passed from to bits n marks some fits few within = λ place low high.
      let there : from + (place - from) ≡ place = omega (arith, low) in
      let P : ℕ → Type 0 = λ k. IsNoDate sources line k in
      subst P there (marks (place - from) (omega (arith, there, high, within)) ((bit_at-trailing_zeros w64 bits some fits).2 (place - from) (omega (arith, low, high, few))))

  -- no bit is set
  pub marks_ended : (from to bits : ℕ) → MarkPlaces sources line from to bits → bits ≡ 0 → HasNoDate sources line from to
  marks_ended from to bits marks none = λ place low high.
      let there : from + (place - from) ≡ place = omega (arith, low) in
      let bit : bit_at bits (place - from) ≡ 0 = rw none (bit_at-zero (place - from)) in
      let P : ℕ → Type 0 = λ k. IsNoDate sources line k in
      subst P there (marks (place - from) (omega (arith, there, high)) bit)

  -- the bits after one
  pub marks_after : (from to bits n : ℕ) → MarkPlaces sources line from to bits → MarkPlaces sources line (from + n + 1) to (bits / 2 ^ n / 2 ^ 1)
  marks_after from to bits n marks = λ k lt none.
      let place : from + (n + 1 + k) ≡ from + n + 1 + k = omega arith in
      let moved : bit_at (bits / 2 ^ n / 2 ^ 1) k ≡ bit_at bits (n + 1 + k) = ap (λ (m : ℕ). bit_at m k) (shr-shr bits n 1) ∙ ap (λ (m : ℕ). m % 2) (shr-shr bits (n + 1) k) in
      let P : ℕ → Type 0 = λ j. IsNoDate sources line j in
      subst P place (marks (n + 1 + k) (omega (arith, lt)) (sym moved ∙ none))

  -- the bits of the places from another one on
  pub marks_from : (at from to bits : ℕ) → at ≤ from → MarkPlaces sources line at to bits → MarkPlaces sources line from to (bits / 2 ^ (from - at))
  marks_from at from to bits le marks = λ k lt none.
      let place : at + (from - at + k) ≡ from + k = omega (arith, le) in
      let moved : bit_at (bits / 2 ^ (from - at)) k ≡ bit_at bits (from - at + k) = ap (λ (m : ℕ). m % 2) (shr-shr bits (from - at) k) in
      let P : ℕ → Type 0 = λ j. IsNoDate sources line j in
      subst P place (marks (from - at + k) (omega (arith, lt, le)) (sym moved ∙ none))
