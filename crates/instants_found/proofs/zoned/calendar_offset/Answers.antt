use Rattle.std.proofs.Common.{arith, ◌≡◌, ◌∙◌, sym, Ok, Err, to_z, of_z, w32, to_z-of_z}
use Rattle.instants_found.proofs.ZonedLemmas.{of_zone}
use Rattle.instants_found.proofs.zoned.calendar_offset.Goals as goal

pub unreachable-requires : goal.unreachable-requires
unreachable-requires c =
    let same : to_z w32 (of_z w32 c.args.ahead) ≡ c.args.ahead = to_z-of_z {w = w32} {z = c.args.ahead} (omega (arith, c.requires)) in
    let is : c.from_whole_seconds.result ≡ Ok c.args.ahead = (rw same at c.from_whole_seconds.ensures.value) ∙ of_zone c.args.ahead c.requires in
    let wrong : Err c.in-Err.field-0 ≡ Ok c.args.ahead = sym c.in-Err.is ∙ is in
    absurd cc

pub returns : goal.returns
returns c =
    let same : to_z w32 (of_z w32 c.args.ahead) ≡ c.args.ahead = to_z-of_z {w = w32} {z = c.args.ahead} (omega (arith, c.requires)) in
    let is : c.from_whole_seconds.result ≡ Ok c.args.ahead = (rw same at c.from_whole_seconds.ensures.value) ∙ of_zone c.args.ahead c.requires in
    let ok : Ok c.in-Ok.offset ≡ Ok c.args.ahead = sym c.in-Ok.is ∙ is in
    cc
