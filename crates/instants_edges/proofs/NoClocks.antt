-- Without a colon before a place no clock is there.
use Rattle.std.proofs.Common.{◌≡◌, ℕ, zero, suc, ◌+◌, ◌-◌, ◌<◌, ◌≤◌, ◌==◌, false, not, List, [], ◌∷◌, length, take, drop, get_or, refl, subst, inl, inr, arith}
use Rattle.std.specs.Prelude.{codes}
use Rattle.std.specs.List.{prefix_len}
use Rattle.std.proofs.Math.Bool.{and-false}
use Rattle.std.proofs.lemmas.Bool.{cases_lt}
use Rattle.std.proofs.lemmas.List.{get_or-drop, get_or-take, get_or_past, length-take}
use Rattle.base.specs.Bytes.{colon}
use Rattle.instants_edges.specs.Words.{fits, begin_so}
use Rattle.instants_edges.specs.Beside.{begins_seconds, has_clock_before}
use Rattle.instants_edges.proofs.Anywhere.{any_never}
use Rattle.instants_edges.proofs.FirstBytes.{no_other}

-- none stands before a place
abbrev pub HasNoColon : List ℕ → ℕ → Type 0
HasNoColon line place = (k : ℕ) → k < place → (get_or line k 0 == colon) ≡ false

-- sixteen bytes more without one
pub none_among : (line : List ℕ) (seen at place : ℕ) → at ≤ seen → place ≡ at + 16 → HasNoColon line seen
    → ((k : ℕ) → k < 16 → (get_or line (at + k) 0 == colon) ≡ false) → HasNoColon line place
none_among line seen at place le is none here = λ k lt.
    elim (cases_lt k seen) [
      | inl low ↦ none k low
      | inr high ↦
          let same : at + (k - at) ≡ k = omega (arith, high, le) in
          let P : ℕ → Type 0 = λ n. (get_or line n 0 == colon) ≡ false in
          subst P same (here (k - at) (omega (arith, high, le, is, lt)))
    ]

-- bytes that begin in a form have in each place what its mark there stands for
begun_at : (form bytes : List ℕ) (k : ℕ) → fits (get_or form k 0) (get_or bytes k 0) ≡ false → k < length form → begin_so form bytes ≡ false
unfolding begin_so
begun_at [] bytes k other lt = absurd (omega (arith, lt))
begun_at (mark ∷ form) [] k other lt = refl
begun_at (mark ∷ form) (byte ∷ bytes) zero other lt = rw other refl
begun_at (mark ∷ form) (byte ∷ bytes) (suc k) other lt = rw (begun_at form bytes k other (omega (arith, lt))) (and-false (fits mark byte))

none_cut : (line : List ℕ) (place n k : ℕ) → HasNoColon line place → (get_or (take n (take place line)) k 0 == colon) ≡ false
none_cut line place n k none =
    elim (cases_lt k (length (take n (take place line)))) [
      | inl low ↦
          let before : (k < n) × (k < place) =
          (omega (arith, low, length-take n (take place line)), omega (arith, low, length-take n (take place line), length-take place line)) in
          rw (get_or-take n (take place line) k 0 before.0, get_or-take place line k 0 before.1) (none k before.1)
      | inr past ↦ rw (get_or_past (take n (take place line)) k 0 past) refl
    ]

pub no_colon_no_clock : (line : List ℕ) (place : ℕ) → HasNoColon line place → has_clock_before line place ≡ false
unfolding has_clock_before
no_colon_no_clock line place none =
    let before : List ℕ = take (prefix_len (λ byte. not (byte == 34)) (take place line)) (take place line) in
    any_never (begins_seconds before) 0 (length before) (λ at.
    let other = none_cut line place (prefix_len (λ byte. not (byte == 34)) (take place line)) (at + 2) none in
    rw (begun_at (codes "99:99:99") (drop at before) 2 (rw (get_or-drop at before 2 0) (no_other colon (get_or before (at + 2) 0) refl other)) (omega arith)) refl)
