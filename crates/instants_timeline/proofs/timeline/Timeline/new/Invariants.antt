use Rattle.std.proofs.Common.{◌≡◌, ◌≤◌, ◌*◌, ◌^◌, take, map, length}
use Rattle.instants_words.specs.Sources.{said_by}
use Rattle.instants_sources.specs.Grammar.{grammar_of}
use Rattle.instants_timeline.specs.Sources.{AllMean}
use Rattle.instants_timeline.specs.Tried.{nodes_in_all}
use Rattle.instants_timeline.proofs.timeline.Timeline.new.Given as goal

-- the sources so far were read
abbrev pub invariant-loop-text : goal.invariant-loop-text
invariant-loop-text l = record {
  count : length l.read.items ≡ l.text-index;
  mean : AllMean (map said_by (take l.text-index l.sources)) (map grammar_of l.read.items);
  few : nodes_in_all (map grammar_of l.read.items) ≤ l.text-index * 2 ^ 64;
}
