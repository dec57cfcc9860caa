use Rattle.std.proofs.Common.{arith, ◌≡◌, ◌∙◌, to_z, of_z, w32}
use Rattle.calendar_count.proofs.lemmas.Signed.{signed}
use Rattle.calendar_clock.specs.UtcOffset.{IsOffset}
use Rattle.calendar.proofs.LawLemmas.{offset_named}
use Rattle.calendar.proofs.laws.offset_of_whole_seconds.Goals as goal

pub returns : goal.returns
returns c =
    let back : to_z w32 (of_z w32 c.whole_seconds.result) ≡ c.args.offset = omega (arith, signed) in
    let in_range : IsOffset c.args.offset = (omega (arith, signed), omega (arith, signed)) in
    rw back at c.from_whole_seconds.ensures.value ∙ offset_named c.args.offset in_range
