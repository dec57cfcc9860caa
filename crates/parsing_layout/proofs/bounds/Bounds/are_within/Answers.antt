use Rattle.std.proofs.Common.{◌%◌, ℕ, List, map, ap, arith}
use Rattle.std.specs.Prelude.{nat_eq}
use Rattle.parsing_layout.proofs.BoundsLemmas.{all_pass}
use lib.Lanes.{mask_l, top}
use Rattle.parsing_layout.proofs.bounds.Bounds.are_within.Goals as goal

pub returns : goal.returns
returns c = λ lowest highest.
    ap (λ (lanes : List ℕ). nat_eq (mask_l (map (top 7) lanes) % 18446744073709551616) 65535) (all_pass c.args.self.now.low c.args.bytes c.args.self.now.high (omega (arith, c)) (omega (arith, c)) (omega (arith, c)) lowest highest)
