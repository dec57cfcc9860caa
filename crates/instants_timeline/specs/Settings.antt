-- What a timeline is made of.
use Rattle.std.specs.Prelude.{map}
use Rattle.instants_sources.specs.Grammar.{grammar_of}
use Rattle.instants_timeline.specs.Place.{Setting}
use Rattle.instants_timeline.specs.declared.timeline.Timeline.{Timeline}

-- the grammars of its sources in order, its target, and the offset that it assumes
abbrev pub setting_of : Timeline → Setting
setting_of timeline = record { sources = map grammar_of timeline.sources.items; target = timeline.target; assumed = timeline.assumed }
