use Rattle.std.proofs.Common.{◌≤◌, ◌<◌, ℕ, get_or, arith}
use Rattle.std.proofs.lemmas.List.{get_or-replicate}
use Rattle.parsing_places.proofs.LastLemmas.{last_read}
use Rattle.parsing_places.proofs.last.LastBytes.read.Goals as goal

pub returns-clause-rest : goal.returns-clause-rest
returns-clause-rest c = λ k le lt. c.bytes_before-digits.ensures.zeros k (omega (arith, le, c.requires.few)) lt

pub returns-clause-last : goal.returns-clause-last
returns-clause-last c = λ e.
    let seen = c.taken_at.ensures in
    let nine : (k : ℕ) → k < 16 → get_or c.bytes_before-digits.result k 0 ≤ 9 = λ k lt. rw (get_or-replicate {A = ℕ} 16 k 9 0 lt) at (c.are_at_most-fits.ensures e k lt).1 in
    last_read c.args.self.now c.args.text.now c.args.end c.args.count _ _ c.bytes_before-digits.result (seen.taken (λ k lt. (c.are_at_most-fits.ensures e k lt).0)) seen.above seen.small c.requires.long c.requires.within c.requires.few c.requires.near
    c.bytes_before-digits.ensures.taken c.bytes_before-digits.ensures.zeros nine
