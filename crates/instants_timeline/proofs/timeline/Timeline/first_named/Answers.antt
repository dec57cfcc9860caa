use Rattle.std.proofs.Common.{◌+◌, drop, refl, arith}
use Rattle.parsing_combinator.specs.FaultOf.{fault_of}
use Rattle.instants_sources.specs.Grammar.{grammar_of}
use Rattle.instants_timeline.specs.Settings.{setting_of}
use Rattle.instants_timeline.proofs.FirstNamed.{first_is_at, first_is_fault, names_from_next}
use Rattle.instants_timeline.proofs.timeline.Timeline.first_named.Goals as goal

pub returns-then-keeps_named-clause-gives : goal.returns-then-keeps_named-clause-gives
returns-then-keeps_named-clause-gives c =
    let setting = setting_of c.args.self.now in
    first_is_at setting c.args.line.now c.in-Some.likely (grammar_of c.in-Some.source.now) (drop (c.in-Some.likely + 1) setting.sources) c.keeps_named.new.kept c.in-Some.ensures.from c.in-Some.ensures.source (c.keeps_named.ensures.named c.if-keeps_named.true)

pub loop-likely-smaller : goal.loop-likely-smaller
loop-likely-smaller c = omega (arith, c.in-Some.ensures.later, c.in-Some.ensures.within)

pub loop-likely-preserved : goal.loop-likely-preserved
loop-likely-preserved c =
    names_from_next (setting_of c.args.self.now) c.args.line.now c.in-Some.likely (grammar_of c.in-Some.source.now) c.in-Some.ensures.from c.in-Some.ensures.source (c.keeps_named.ensures.none c.if-keeps_named.false)

pub returns-in-Some-known-clause-gives : goal.returns-in-Some-known-clause-gives
returns-in-Some-known-clause-gives c =
    let setting = setting_of c.args.self.now in
    let known = rw c.in-Some-known.is at c.requires.known in
    first_is_fault setting c.args.line.now known.grammar (drop 1 setting.sources) (fault_of c.in-Some-known.fault) known.first c.in_default.ensures.none known.refused

pub returns-in-Ok-clause-gives : goal.returns-in-Ok-clause-gives
returns-in-Ok-clause-gives c =
    let setting = setting_of c.args.self.now in
    rw c.of_moment.ensures (first_is_at setting c.args.line.now 0 (grammar_of c.first.result.now) (drop 1 setting.sources) c.in-Ok.moment refl c.first.ensures c.in-Ok.ensures.gives)

pub returns-in-Err-clause-gives : goal.returns-in-Err-clause-gives
returns-in-Err-clause-gives c =
    let setting = setting_of c.args.self.now in
    first_is_fault setting c.args.line.now (grammar_of c.first.result.now) (drop 1 setting.sources) (fault_of c.in-Err.fault) c.first.ensures c.in_default.ensures.none c.in-Err.ensures.gives
