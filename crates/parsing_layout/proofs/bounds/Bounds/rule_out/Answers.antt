use Rattle.std.proofs.Common.{◌≡◌, ◌<◌, ℕ, true, not, get_or, take, drop, arith}
use Rattle.std.proofs.lemmas.Grind.{get_or_default_zero}
use Rattle.std.proofs.lemmas.List.{get_or-take}
use Rattle.parsing_layout.proofs.bounds.Bounds.rule_out.Goals as goal

pub returns : goal.returns
returns c = λ out admits.
    let line = c.args.line.now in
    let there : (k : ℕ) → k < 16 → get_or (take 16 (drop 0 line)) k 0 ≡ get_or line k 0 = λ k lt. get_or-take 16 line k 0 lt in
    let within = c.are_within.ensures (λ k lt. rw (there k lt) (admits.lowest k))
    (λ k lt. rw (there k lt) (rw (get_or_default_zero c.args.self.now.high k 255 (omega (arith, c, lt))) at (admits.highest k (omega (arith, c.type_inv.line k))))) in
    absurd (let never : not true ≡ true = rw within at out in cc)
