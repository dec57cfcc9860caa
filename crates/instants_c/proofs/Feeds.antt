-- An input has at most one line more than it has line feeds.
use Rattle.std.proofs.Common.{◌==◌, ℕ, ◌+◌, ◌≤◌, List, [], ◌∷◌, ◌++◌, length, arith, lit≤}
use Rattle.std.specs.Prelude.{count_by}
use Rattle.std.specs.List.{slice_split}
use Rattle.std.proofs.lemmas.List.Splits.{length-slice_split}
use Rattle.instants_stream.specs.Lines.{but_last, last, if_nonempty, parts, whole_lines, last_part, lines}

one_at_most : (p : List ℕ) → length (if_nonempty p) ≤ 1
one_at_most [] = lit≤ tt
one_at_most (b ∷ p) = lit≤ tt

few_parts : (ps : List (List ℕ)) → length (but_last ps ++ if_nonempty (last ps)) ≤ length ps
few_parts [] = lit≤ tt
few_parts (p ∷ []) = one_at_most p
few_parts (p ∷ q ∷ ps) = omega (arith, few_parts (q ∷ ps))

pub lines_by_feeds : (s : List ℕ) → length (lines s) ≤ count_by (λ b. b == 10) s + 1
unfolding lines whole_lines last_part parts
lines_by_feeds s =
    let few = few_parts (slice_split (λ b. b == 10) s) in
    omega (arith, few, length-slice_split (λ b. b == 10) s)
