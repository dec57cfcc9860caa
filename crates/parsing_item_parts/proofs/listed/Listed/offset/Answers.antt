use Rattle.std.proofs.Common.{◌≡◌, arith, to_z, of_z, w16, pos}
use Rattle.std.specs.Prelude.{◌*ℤ◌}
use Rattle.std.proofs.lemmas.Int.{ints}
use Rattle.parsing_strides.specs.Found.{values_in}
use Rattle.parsing_item_parts.proofs.MomentLemmas.{offset_assumed, offset_said}
use Rattle.parsing_item_parts.proofs.SaidLemmas.{unwritten, written}
use Rattle.parsing_item_parts.proofs.listed.Listed.offset.Goals as goal

pub returns-then-not-self-clause-named : goal.returns-then-not-self-clause-named
returns-then-not-self-clause-named c = λ has assumed way assumes.
    let none = unwritten c.args.self.now has (values_in c.args.found.now) c.requires.dated way c.if-not-self.true in
    let whole : to_z w16 (of_z w16 c.args.minutes.number) ≡ c.args.minutes.number = omega (arith, ints, c.args.minutes.few) in
    rw whole (offset_assumed assumed has (values_in c.args.found.now) (pos 60 *ℤ c.args.minutes.number) none.0 none.1 (assumes c.if-not-self.true))

pub returns-clause-named : goal.returns-clause-named
returns-clause-named c =
    let l = c.args.self.now in
    let v = values_in c.args.found.now in
    let value = rw (c.get-is_behind.ensures, c.get-hour.ensures, c.get-minute.ensures) at c.offset_minutes.ensures.value in
    let whole : to_z w16 (of_z w16 c.offset_minutes.result) ≡ c.offset_minutes.result = omega (arith, ints) in
    λ has assumed way _.
    let w = written l has v c.requires.dated way c.requires.range c.if-not-self.false in
    rw whole (offset_said assumed has v (pos 60 *ℤ c.offset_minutes.result) w.0 w.1 value)
