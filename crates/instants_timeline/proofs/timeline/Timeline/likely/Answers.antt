use Rattle.std.proofs.Common.{◌≡◌, ◌<◌, ◌≤◌, length, get_or, map, arith}
use Rattle.std.proofs.lemmas.List.{length-map}
use Rattle.instants_sources.specs.Grammar.{grammar_of}
use Rattle.instants_timeline.specs.Settings.{setting_of}
use Rattle.instants_timeline.proofs.FirstNamed.{names_from_next, source_at, none_at_end}
use Rattle.instants_timeline.proofs.timeline.Timeline.likely.Goals as goal

pub loop-place-init : goal.loop-place-init
loop-place-init c = record { later = omega arith; names = c.requires }

pub returns-then-not-cannot_match-clause-from : goal.returns-then-not-cannot_match-clause-from
returns-then-not-cannot_match-clause-from c = c.loop-place.invariant.names

pub returns-then-not-cannot_match-clause-source : goal.returns-then-not-cannot_match-clause-source
returns-then-not-cannot_match-clause-source c =
    let sources = c.args.self.now.sources.items in
    let item = c.index-sources-place.result in
    let within : c.loop-place.place < length sources = rw c.as_slice-sources.ensures.value at c.loop-place-test.true in
    let is : item ≡ get_or sources c.loop-place.place item = rw c.as_slice-sources.ensures.value at c.index-sources-place.is in
    source_at sources c.loop-place.place item within is

pub returns-then-not-cannot_match-clause-within : goal.returns-then-not-cannot_match-clause-within
returns-then-not-cannot_match-clause-within c =
    let within : c.loop-place.place < length c.args.self.now.sources.items = rw c.as_slice-sources.ensures.value at c.loop-place-test.true in
    rw length-map within

pub loop-place-preserved : goal.loop-place-preserved
loop-place-preserved c =
    let sources = c.args.self.now.sources.items in
    let item = c.index-sources-place.result in
    let within : c.loop-place.place < length sources = rw c.as_slice-sources.ensures.value at c.loop-place-test.true in
    let is : item ≡ get_or sources c.loop-place.place item = rw c.as_slice-sources.ensures.value at c.index-sources-place.is in
    record {
      later = omega (arith, c.loop-place.invariant.later);
      names = names_from_next (setting_of c.args.self.now) c.args.line.now c.loop-place.place (grammar_of item) c.loop-place.invariant.names (source_at sources c.loop-place.place item within is)
          (c.cannot_match.ensures c.if-not-cannot_match.false c.args.self.now.assumed);
    }

pub returns-clause-none : goal.returns-clause-none
returns-clause-none c =
    let sources = c.args.self.now.sources.items in
    let end : length sources ≤ c.loop-place.place = rw c.as_slice-sources.ensures.value at c.loop-place-test.false in
    let all : length (map grammar_of sources) ≤ c.loop-place.place = rw length-map end in
    none_at_end (setting_of c.args.self.now) c.args.line.now c.loop-place.place all c.loop-place.invariant.names
