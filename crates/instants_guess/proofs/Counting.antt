-- Lines with a kind of finding, counted one line after another.
use Rattle.std.proofs.Common.{◌≡◌, ℕ, ◌+◌, Bool, cond, List, ◌∷◌, length, Option, count_by, ap, ◌∙◌, arith}
use Rattle.std.proofs.lemmas.List.Sums.{sum_by-cons}
use Rattle.instants_found.specs.declared.found.Finding.{Finding}
use Rattle.instants_stream.specs.Lines.{lines}
use Rattle.instants_guess.specs.Candidate.{found_by, lines_with}
use Rattle.instants_guess.specs.declared.candidate.Candidate.{Candidate}
use Rattle.instants_guess.proofs.FirstLine.{lines_none}

module _ (is : Option Finding → Bool) (candidate : Candidate) (all before : ℕ) (rest : List ℕ) (so_far : all ≡ before + lines_with is candidate rest) where
  -- a line, and the others
  pub counted : (after : ℕ) (line others : List ℕ) (finding : Option Finding) → lines rest ≡ line ∷ lines others → finding ≡ found_by candidate line → after ≡ before + cond (is finding) 1 0 → all ≡ after + lines_with is candidate others
  counted after line others finding split found more =
      let p : List ℕ → ℕ = λ l. cond (is (found_by candidate l)) 1 0 in
      let whole : lines_with is candidate rest ≡ p line + lines_with is candidate others = ap (count_by (λ l. is (found_by candidate l))) split ∙ sum_by-cons p line (lines others) in
      let here : cond (is finding) 1 0 ≡ p line = ap (λ f. cond (is f) 1 0) found in
      omega (arith, so_far, whole, here, more)

  -- no line is left
  pub counted_all : length rest ≡ 0 → before ≡ all
  counted_all none =
      let left : lines_with is candidate rest ≡ 0 = ap (count_by (λ l. is (found_by candidate l))) (lines_none rest none) in
      omega (arith, so_far, left)
