use Rattle.std.proofs.Common.{refl, sym, ◌∙◌, ◌<◌, length, arith}
use Rattle.instants_fields.specs.Json.{value}
use Rattle.instants_fields.proofs.ItemLemmas.{next_item, string_is}
use Rattle.instants_fields.proofs.value.+value.Goals as goal

pub items-loop-rest-preserved : goal.items-loop-rest-preserved
items-loop-rest-preserved t c =
    let shorter : length c.in_ok-is_last.rest.now < length c.loop-rest.left.now =
    omega (arith, c.after_space.ensures.shorter, c.in_ok-after_key.ensures.shorter, c.in_ok-rest.ensures.shorter, c.in_ok-is_last.ensures.shorter)
    in record {
      same = next_item c.args.is_object (value c.args.levels) c.loop-rest.left.now _ _ _ _ _ _ c.in_ok-is_last.rest.now
          c.after_space.ensures.rest c.in_ok-after_key.ensures.cut c.in_ok-rest.ensures.cut refl c.in_ok-is_last.ensures.cut c.if-is_last.false shorter
          ∙ c.loop-rest.invariant.same;
      within = omega (arith, shorter);
    }

pub value-returns-in-Some-clause-cut : goal.value-returns-in-Some-clause-cut
value-returns-in-Some-clause-cut t c = c.quoted.ensures.cut ∙ sym (string_is c.args.levels c.args.text.now c.in-Some.rest.now c.in-Some.ensures.cut)
