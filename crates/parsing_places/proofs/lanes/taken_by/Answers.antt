use Rattle.std.proofs.Common.{refl, sym, subst, arith}
use Rattle.std.proofs.lemmas.Simd.{SwzOk-from_Each1}
use Rattle.parsing_places.proofs.LaneLemmas.{each_moves}
use lib.Dec.{T}
use mir.Syntax.{w8}
use Rattle.parsing_places.proofs.lanes.taken_by.Goals as goal

pub swizzle : goal.swizzle
swizzle c = SwzOk-from_Each1 w8 16 1 16 0 c.args.moves.now.lanes refl (omega (arith, c)) (each_moves c.args.moves.now.lanes (subst T (sym c.args.moves.now.right) tt))
