use Rattle.std.proofs.Common.{refl, sym, subst, arith, ◌∙◌, ap, ℕ, get_or}
use Rattle.std.proofs.lemmas.Simd.{SwzOk-from_Each1}
use Rattle.parsing_places.proofs.LaneLemmas.{each_moves, taken_lane, no_lane}
use Rattle.parsing_places.proofs.LastLemmas.{slid_moves, slid_place, slid_none}
use lib.Dec.{T}
use mir.Syntax.{w8}
use Rattle.parsing_places.proofs.last.LastBytes.bytes_before.Goals as goal

pub swizzle : goal.swizzle
swizzle c =
    let moves = c.sixteen_from-moves.result in
    SwzOk-from_Each1 w8 16 1 16 0 moves refl (omega (arith, c)) (each_moves moves (subst T (sym (slid_moves c.args.self.now moves c.args.count c.requires (omega (arith, c)) c.sixteen_from-moves.ensures.bytes)) tt))

pub returns-clause-taken : goal.returns-clause-taken
returns-clause-taken c = λ k lt.
    let moves = c.sixteen_from-moves.result in
    let is = slid_place c.args.self.now moves c.args.count c.requires (omega (arith, c)) c.sixteen_from-moves.ensures.bytes k lt in
    taken_lane c.args.bytes moves k (omega (arith, c)) (omega (arith, lt, c.requires)) (omega (arith, is, lt, c.requires)) ∙ ap (λ (j : ℕ). get_or c.args.bytes j 0) is

pub returns-clause-zeros : goal.returns-clause-zeros
returns-clause-zeros c = λ k le lt.
    let moves = c.sixteen_from-moves.result in
    no_lane c.args.bytes moves k (omega (arith, c)) lt (slid_none c.args.self.now moves c.args.count c.requires (omega (arith, c)) c.sixteen_from-moves.ensures.bytes k le lt)
