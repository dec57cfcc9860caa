use Rattle.std.proofs.Common.{refl, sym, subst, arith}
use Rattle.std.proofs.lemmas.Simd.{SwzOk-from_Each1}
use Rattle.parsing_places.proofs.LaneLemmas.{each_moves}
use Rattle.parsing_strides.proofs.LaneLemmas.{row_right, moved_lane}
use lib.Dec.{T}
use mir.Syntax.{w8}
use Rattle.parsing_strides.proofs.lanes.moved_down.Goals as goal

pub swizzle : goal.swizzle
swizzle c =
    let row = c.sixteen_from.result in
    SwzOk-from_Each1 w8 16 1 16 0 row refl (omega (arith, c)) (each_moves row (subst T (sym (row_right row c.args.by (omega (arith, c)) c.sixteen_from.ensures.bytes (omega (arith, c.requires)))) tt))

pub returns : goal.returns
returns c = λ k lt. moved_lane c.args.bytes c.sixteen_from.result c.args.by k (omega (arith, c)) c.sixteen_from.ensures.bytes lt
