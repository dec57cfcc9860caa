use Rattle.std.proofs.Common.{◌∙◌, sym}
use Rattle.parsing_strides.specs.Found.{values_in}
use Rattle.parsing_item_parts.proofs.MomentLemmas.{hour_said, half_late, half_early}
use Rattle.parsing_item_parts.proofs.SaidLemmas.{whole_hour, half_hour}
use Rattle.parsing_item_parts.proofs.listed.Listed.hour.Goals as goal

pub returns-then-not-self-clause-hour : goal.returns-then-not-self-clause-hour
returns-then-not-self-clause-hour c =
    let l = c.args.self.now in
    let v = values_in c.args.found.now in
    λ has assumed way. rw c.get.ensures (hour_said assumed has v (whole_hour l has v c.requires.dated way c.requires.range c.if-not-self.true))

pub returns-then-get-eq1-clause-hour : goal.returns-then-get-eq1-clause-hour
returns-then-get-eq1-clause-hour c =
    let l = c.args.self.now in
    let v = values_in c.args.found.now in
    λ has assumed way. rw c.get-hour.ensures
    (half_late assumed has v (half_hour l has v c.requires.dated way c.requires.range c.if-not-self.false) (sym c.get-2.ensures ∙ c.if-get-eq1.true))

pub returns-clause-hour : goal.returns-clause-hour
returns-clause-hour c =
    let l = c.args.self.now in
    let v = values_in c.args.found.now in
    λ has assumed way. rw c.get-hour.ensures
    (half_early assumed has v (half_hour l has v c.requires.dated way c.requires.range c.if-not-self.false) (λ is. c.if-get-eq1.false (c.get-2.ensures ∙ is)))
