use Rattle.std.proofs.Common.{◌≡◌, true, refl, ap, replicate}
use mathlib.Core.Bool.{Bool-set}
use Rattle.parsing_places.specs.Lanes.{are_moves}
use Rattle.parsing_shapes.specs.End.{alone_by, end_by}
use Rattle.parsing_shapes.proofs.end.end_of.Goals as goal

pub returns : goal.returns
returns c = ap (λ (r : are_moves (replicate 16 128) ≡ true). end_by (alone_by r c.args.window.now)) (Bool-set (are_moves (replicate 16 128)) true _ refl)
