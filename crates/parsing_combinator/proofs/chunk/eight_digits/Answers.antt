use Rattle.std.proofs.Common.{arith}
use Rattle.parsing_combinator.proofs.DigitChunks.{eight_said}
use Rattle.parsing_combinator.proofs.chunk.eight_digits.Goals as goal

pub pairs-first-requires : goal.pairs-first-requires
pairs-first-requires c =
    let t = c.in_ok-digits.ensures in
    (eight_said _ _ _ c.in_ok-chunk.ensures.chunk c.in_ok-chunk.ensures.enough (λ k. omega (arith, c.type_inv.bytes k)) t.above t.digits).low

pub pairs-third-requires : goal.pairs-third-requires
pairs-third-requires c =
    let t = c.in_ok-digits.ensures in
    (eight_said _ _ _ c.in_ok-chunk.ensures.chunk c.in_ok-chunk.ensures.enough (λ k. omega (arith, c.type_inv.bytes k)) t.above t.digits).high

pub returns : goal.returns
returns c =
    let t = c.in_ok-digits.ensures in
    let e = eight_said _ _ _ c.in_ok-chunk.ensures.chunk c.in_ok-chunk.ensures.enough (λ k. omega (arith, c.type_inv.bytes k)) t.above t.digits in
    record { digits = grind (arith, e.reads); bound = let l = e.low in let h = e.high in omega (arith, l.first, l.second, l.third, l.fourth, h.first, h.second, h.third, h.fourth) }
