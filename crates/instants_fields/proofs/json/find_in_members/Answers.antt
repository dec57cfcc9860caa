use Rattle.std.proofs.Common.{refl, ◌∙◌, ◌<◌, length, arith}
use Rattle.instants_fields.specs.Json.{value}
use Rattle.instants_fields.proofs.FoundLemmas.{next_member}
use Rattle.instants_fields.proofs.json.find_in_members.Goals as goal

pub loop-rest-preserved : goal.loop-rest-preserved
loop-rest-preserved c =
    let shorter : length c.in_ok-is_last.rest.now < length c.loop-rest.left.now = omega (arith, c.in_ok-rest.ensures.shorter, c.in_ok-is_last.ensures.shorter) in
    record {
      same = next_member c.args.name.now c.loop-rest.found (value 126) c.loop-rest.left.now _ c.find_in_member.new.found _ _ _ c.in_ok-is_last.rest.now
          refl c.in_ok-rest.ensures.cut refl c.in_ok-is_last.ensures.cut c.if-is_last.false shorter
          ∙ c.loop-rest.invariant.same;
      within = omega (arith, shorter);
      lies = c.in_ok-rest.ensures.within (length c.args.text.now) (omega arith) c.loop-rest.invariant.lies;
    }
