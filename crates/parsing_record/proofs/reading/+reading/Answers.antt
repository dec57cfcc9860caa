use Rattle.std.proofs.Common.{rules, ◌≡◌, ◌+◌, arith, refl, ◌∙◌, ap, Ok, Some, sym, subst}
use Rattle.std.specs.Prelude.{option_map}
use Rattle.parsing_combinator.specs.FaultOf.{reading_fault}
use Rattle.parsing_components.specs.Reads.{reading, tried}
use Rattle.parsing_record.proofs.lemmas.Steps.{all_on, all_stop, all_end, still_refused, still_read, still_none, still_some, kept_first, first_fault}
use Rattle.parsing_record.proofs.reading.+reading.Goals as goal

pub read_nodes-returns-in_err-rest : goal.read_nodes-returns-in_err-rest
read_nodes-returns-in_err-rest g t c =
    let stopped = all_stop g.N.Node.language g.N.Node.tree c.args.nodes.now c.loop-node.node-index c.node-item.result c.loop-node.parsed c.loop-node.rest.now (reading_fault c.in_err-rest.field-0.0) c.loop-node-test.true c.node-item.is c.in_err-rest.ensures.answer in
    let fault = c.loop-node.invariant.0 ∙ ap (λ x. x.0) stopped in
    record {
      answer = search rules;
      tally = subst (λ n. g.T.Tally.grows c.args.tally.now c.read_one.new.tally n) (sym (c.loop-node.invariant.3 ∙ ap (λ x. c.loop-node.invariant.1 + x.1) stopped))
          (g.met.T.Tally.joins _ _ _ _ _ c.loop-node.invariant.2 c.in_err-rest.ensures.tally);
    }

pub read_nodes-loop-node-preserved : goal.read_nodes-loop-node-preserved
read_nodes-loop-node-preserved g t c =
    let begun = tried g.N.Node.language (g.N.Node.tree c.node-item.result) c.loop-node.parsed c.loop-node.rest.now in
    let step = all_on g.N.Node.language g.N.Node.tree c.args.nodes.now c.loop-node.node-index c.node-item.result c.loop-node.parsed c.read_one.new.parsed c.loop-node.rest.now c.in_ok-rest.rest.now c.loop-node-test.true c.node-item.is c.in_ok-rest.ensures.answer in (
      c.loop-node.invariant.0 ∙ ap (λ x. x.0) step,
      c.loop-node.invariant.1 + begun,
      g.met.T.Tally.joins _ _ _ _ _ c.loop-node.invariant.2 c.in_ok-rest.ensures.tally,
      omega (arith, ap (λ x. x.1) step, c.loop-node.invariant.3),
    )

pub read_nodes-returns : goal.read_nodes-returns
read_nodes-returns g t c =
    let ended = all_end g.N.Node.language g.N.Node.tree c.args.nodes.now c.loop-node.node-index c.loop-node.parsed c.loop-node.rest.now c.loop-node-test.false in
    record {
      answer = c.loop-node.invariant.0 ∙ ap (λ x. x.0) ended;
      tally = subst (λ n. g.T.Tally.grows c.args.tally.now c.loop-node.tally n) (omega (arith, ap (λ x. x.1) ended, c.loop-node.invariant.3)) c.loop-node.invariant.2;
    }

pub read_first-returns-in-Ok : goal.read_first-returns-in-Ok
read_first-returns-in-Ok g t c =
    let same = ap (λ r. tried g.N.Node.language (g.N.Node.tree c.node-item.result) r c.args.input.now) c.loop-node.invariant.1 in
    let read = ap (λ r. reading g.N.Node.language (g.N.Node.tree c.node-item.result) r c.args.input.now) (sym c.loop-node.invariant.1) ∙ c.in-Ok.ensures.answer in
    let step = still_read g.N.Node.language g.N.Node.tree c.args.nodes.now c.loop-node.node-index c.node-item.result c.args.parsed.now c.args.input.now (option_map reading_fault c.loop-node.fault) (c.read_node.new.parsed, c.in-Ok.rest.now) c.loop-node-test.true c.node-item.is read in
    record {
      answer = c.loop-node.invariant.0 ∙ ap (λ x. x.0) step;
      tally = subst (λ n. g.T.Tally.grows c.args.tally.now c.read_node.new.tally n) (omega (arith, same, ap (λ x. x.1) step, c.loop-node.invariant.5))
          (g.met.T.Tally.joins _ _ _ _ _ c.loop-node.invariant.4 c.in-Ok.ensures.tally);
    }

pub read_first-loop-node-preserved : goal.read_first-loop-node-preserved
read_first-loop-node-preserved g t c =
    let refused = ap (λ r. reading g.N.Node.language (g.N.Node.tree c.node-item.result) r c.args.input.now) (sym c.loop-node.invariant.1) ∙ c.in-Err.ensures.answer in
    let begun = tried g.N.Node.language (g.N.Node.tree c.node-item.result) c.loop-node.parsed c.args.input.now in
    let same = ap (λ r. tried g.N.Node.language (g.N.Node.tree c.node-item.result) r c.args.input.now) c.loop-node.invariant.1 in
    let step = still_refused g.N.Node.language g.N.Node.tree c.args.nodes.now c.loop-node.node-index c.node-item.result c.args.parsed.now c.args.input.now (option_map reading_fault c.loop-node.fault) (reading_fault c.in-Err.refused) c.loop-node-test.true c.node-item.is refused in
    let kept : option_map reading_fault c.or-fault.result ≡ Some (first_fault (option_map reading_fault c.loop-node.fault) (reading_fault c.in-Err.refused)) = rw c.or-fault.ensures (kept_first c.loop-node.fault c.in-Err.refused) in (
      rw kept (c.loop-node.invariant.0 ∙ ap (λ x. x.0) step),
      refl,
      refl,
      c.loop-node.invariant.3 + begun,
      g.met.T.Tally.joins _ _ _ _ _ c.loop-node.invariant.4 c.in-Err.ensures.tally,
      rw kept (omega (arith, same, ap (λ x. x.1) step, c.loop-node.invariant.5)),
    )

pub read_first-returns-in-None : goal.read_first-returns-in-None
read_first-returns-in-None g t c =
    let ended = still_none g.N.Node.language g.N.Node.tree c.args.nodes.now c.loop-node.node-index c.args.parsed.now c.args.input.now c.loop-node.fault c.loop-node-test.false c.in-None.is in
    record {
      answer = c.loop-node.invariant.0 ∙ ap (λ x. x.0) ended ∙ ap (λ r. Ok (r, c.args.input.now)) (sym c.loop-node.invariant.1);
      tally = subst (λ n. g.T.Tally.grows c.args.tally.now c.loop-node.tally n) (omega (arith, ap (λ x. x.1) ended, c.loop-node.invariant.5)) c.loop-node.invariant.4;
    }

pub read_first-returns-in-Some : goal.read_first-returns-in-Some
read_first-returns-in-Some g t c =
    let ended = still_some g.N.Node.language g.N.Node.tree c.args.nodes.now c.loop-node.node-index c.args.parsed.now c.args.input.now c.loop-node.fault c.in-Some.refused c.loop-node-test.false c.in-Some.is in
    record {
      answer = c.loop-node.invariant.0 ∙ ap (λ x. x.0) ended;
      tally = subst (λ n. g.T.Tally.grows c.args.tally.now c.loop-node.tally n) (omega (arith, ap (λ x. x.1) ended, c.loop-node.invariant.5)) c.loop-node.invariant.4;
    }
