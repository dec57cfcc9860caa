use Rattle.std.proofs.Common.{arith}
use Rattle.std.proofs.lemmas.List.{take_all}
use Rattle.std.proofs.lemmas.List.Elements.{All-nil, All-more, All-map}
use Rattle.instants_sources.specs.Grammar.{grammar_of}
use Rattle.instants_sources.specs.declared.source.Source.{Source}
use Rattle.instants_found.specs.Starts.{CannotStand, index_of}
use Rattle.instants_found.proofs.starts.some_has.Goals as goal

pub loop-number-init : goal.loop-number-init
loop-number-init c = All-nil (λ (source : Source). CannotStand (index_of c.args.place) c.args.byte (grammar_of source))

pub loop-number-preserved : goal.loop-number-preserved
loop-number-preserved c =
    All-more (λ (source : Source). CannotStand (index_of c.args.place) c.args.byte (grammar_of source)) c.args.sources.now c.loop-number.number c.index-sources-number.result (omega arith) c.loop-number.invariant
    (rw (← c.index-sources-number.is) (c.can_stand.ensures c.if-can_stand.false))

pub returns : goal.returns
returns c = λ _.
    All-map (CannotStand (index_of c.args.place) c.args.byte) grammar_of c.args.sources.now
    (rw (take_all c.loop-number.number c.args.sources.now (omega arith)) at c.loop-number.invariant)
