use Rattle.std.proofs.Common.{take, arith}
use Rattle.std.proofs.lemmas.List.{take_all}
use Rattle.std.proofs.lemmas.List.Elements.{All-weaker, All-more, All-map}
use Rattle.instants_sources.specs.Grammar.{grammar_of}
use Rattle.instants_sources.specs.declared.source.Source.{Source}
use Rattle.instants_found.specs.Keys.{NeedsOne}
use Rattle.instants_found.proofs.keys.Keys.of.Goals as goal

pub loop-number-preserved : goal.loop-number-preserved
loop-number-preserved c =
    let keys = c.with_source-keys.result in
    let sources = c.args.sources.now in
    let number = c.loop-number.number in
    let source = c.index-sources-number.result in
    let others = All-weaker (λ (source : Source). NeedsOne c.loop-number.keys (grammar_of source)) (λ (source : Source). NeedsOne keys (grammar_of source)) (λ source needs. c.with_source-keys.ensures.others (grammar_of source) needs) (take number sources) c.loop-number.invariant in
    All-more (λ (source : Source). NeedsOne keys (grammar_of source)) sources number source (omega arith) others (rw (← c.index-sources-number.is) c.with_source-keys.ensures.source)

pub returns : goal.returns
returns c =
    All-map (NeedsOne c.loop-number.keys) grammar_of c.args.sources.now
    (rw (take_all c.loop-number.number c.args.sources.now (omega arith)) at c.loop-number.invariant)
