-- No two things are found in a line.
use Rattle.std.proofs.Common.{◌≡◌, ◌<◌, ◌≤◌, ◌⊎◌, ℕ, Bool, true, false, List, Option, Some, None, refl, sym, ap, subst, ◌∙◌, inl, inr, arith}
use Rattle.std.specs.Prelude.{if◌then◌else◌}
use Rattle.std.proofs.lemmas.Bool.{cases_lt, false≢true}
use Rattle.instants_prefixes.specs.declared.given.Given.{Given}
use Rattle.instants_sources.specs.Grammar.{Grammar}
use Rattle.instants_found.specs.Candidate.{is_whole}
use Rattle.instants_found.specs.Found.{found, looked_at, finding}
use Rattle.instants_found.specs.IsFound.{IsReadAt, IsLongest, IsFound}
use Rattle.instants_found.specs.declared.candidate.Candidate.{Candidate}
use Rattle.instants_found.specs.declared.found.Finding.{Finding}
use Rattle.instants_found.specs.declared.found.Finding.TheVariants.{Doubtful, There}
use Rattle.instants_found.proofs.FirstFound.{first_found_is}

-- of two dates neither is longer than the other
same_number : (one other number later : ℕ) → (other < one) ⊎ ((other ≡ one) × (number ≤ later)) → (one < other) ⊎ ((one ≡ other) × (later ≤ number)) → number ≡ later
same_number one other number later (inl less) (inl more) = absurd (omega (arith, less, more))
same_number one other number later (inl less) (inr (same, le)) = absurd (omega (arith, less, same))
same_number one other number later (inr (same, le)) (inl more) = absurd (omega (arith, same, more))
same_number one other number later (inr (same, le)) (inr (same_too, ge)) = omega (arith, le, ge)

module _ (limit : ℕ) (given : Given) (sources : List Grammar) (line : List ℕ) where
  -- there is one least place
  same_place : (one other : ℕ) (date dated : Candidate) → IsLongest limit given sources line one date → IsLongest limit given sources line other dated → one ≡ other
  same_place one other date dated here there =
      elim (cases_lt one other) [
        | inl lt ↦ absurd (there.least one here.number date lt here.here)
        | inr le ↦ elim (cases_lt other one) [ inl lt ↦ absurd (here.least other there.number dated lt there.here) | inr ge ↦ omega (arith, le, ge) ]
      ]

  same_date : (place one other : ℕ) (date dated : Candidate) → one ≡ other → IsReadAt given sources line place one date → IsReadAt given sources line place other dated → date ≡ dated
  same_date place one other date dated same here there = cc (same, here.reads, there.reads)

  -- and one date there, if one stands whole
  one_date : (place : ℕ) (date dated : Candidate) (a b : Bool) → is_whole date ≡ a → is_whole dated ≡ b → IsLongest limit given sources line place date → IsLongest limit given sources line place dated
      → (if a then There date.date else Doubtful place) ≡ (if b then There dated.date else Doubtful place)
  one_date place date dated true true whole standing here there =
      let (_, one) = here.longest dated there.number there.here standing in
      let (_, other) = there.longest date here.number here.here whole in
      ap (λ (c : Candidate). There c.date) (same_date place here.number there.number date dated (same_number date.reach dated.reach here.number there.number one other) here.here there.here)
  one_date place date dated true false whole standing here there = let (is, _) = there.longest date here.number here.here whole in absurd (false≢true (sym standing ∙ is))
  one_date place date dated false true whole standing here there = let (is, _) = here.longest dated there.number there.here standing in absurd (false≢true (sym whole ∙ is))
  one_date place date dated false false whole standing here there = refl

  only_one : (one other : Option Finding) → IsFound limit given sources line one → IsFound limit given sources line other → one ≡ other
  only_one None None none none_there = refl
  only_one None (Some found) none (place, date, long, is) = absurd (none place long.number date long.near long.here)
  only_one (Some found) None (place, date, long, is) none = absurd (none place long.number date long.near long.here)
  only_one (Some one) (Some other) (place, date, here, is) (at, dated, there, is_there) =
      let same = same_place at place dated date there here in
      let P : ℕ → Type 0 = λ n. IsLongest limit given sources line n dated in
      ap (λ (f : Finding). Some f) (is ∙ one_date place date dated (is_whole date) (is_whole dated) refl refl here (subst P same there) ∙ ap (λ n. finding n dated) (sym same) ∙ sym is_there)

pub only_found : (limit : ℕ) (given : Given) (sources : List Grammar) (line : List ℕ) (finding : Option Finding) → IsFound limit given sources (looked_at limit line) finding → finding ≡ found limit given sources line
only_found limit given sources line finding is = only_one limit given sources (looked_at limit line) finding (found limit given sources line) is (first_found_is limit given sources line)
