-- How many items a search tries, and how many bytes each of them is given.
use Rattle.std.proofs.Common.{◌≤◌, ◌*◌, ℕ, zero, suc, List, [], ◌∷◌, length, take, None, arith}
use Rattle.std.proofs.lemmas.List.{length-take}
use Rattle.std.proofs.lemmas.List.Sums.{sum_by-cons}
use Rattle.instants_sources.specs.Grammar.{Grammar}
use Rattle.instants_sources.specs.Tried.{nodes_in, tried_by}
use Rattle.instants_sources.proofs.FewNodes.{tried_by-le}
use Rattle.instants_prefixes.specs.Reading.{text_for, window}
use Rattle.instants_prefixes.proofs.Windows.{text_within}
use Rattle.instants_found.specs.Tried.{tried_at, tried_from, nodes_of}

at_most : (sources : List Grammar) (bytes : List ℕ) → tried_at sources bytes ≤ nodes_of sources
at_most [] bytes = omega arith
at_most (grammar ∷ others) bytes =
    omega (arith, tried_by-le None grammar (text_for grammar bytes), at_most others bytes, sum_by-cons nodes_in grammar others, sum_by-cons (λ g. tried_by None g (text_for g bytes)) grammar others)

pub few_tried : (sources : List Grammar) (line : List ℕ) (limit : ℕ) → tried_from sources line limit ≤ length (take limit line) * nodes_of sources
unfolding tried_from
few_tried sources [] limit = omega arith
few_tried sources (byte ∷ after) zero = omega arith
few_tried sources (byte ∷ after) (suc limit) = let here = at_most sources (byte ∷ after) in let rest = few_tried sources after limit in omega (arith, here, rest)

pub few_bytes : (grammar : Grammar) (bytes : List ℕ) → length (text_for grammar bytes) ≤ window
few_bytes grammar bytes = omega (arith, text_within grammar bytes, length-take 256 bytes)
