use Rattle.std.proofs.Common.{◌∙◌, map, sym}
use Rattle.std.specs.Prelude.{All}
use Rattle.std.proofs.lemmas.Bool.{true≢false}
use Rattle.parsing_item_layouts.proofs.FrontLemmas.{all_true, set_one}
use Rattle.instants_sources.specs.Grammar.{grammar_of}
use Rattle.instants_found.specs.Starts.{CannotStand, index_of}
use Rattle.instants_found.proofs.starts.marked_at.Goals as goal

pub loop-byte-init : goal.loop-byte-init
loop-byte-init c = λ b e. absurd (true≢false (sym (all_true 256 b) ∙ e))

pub loop-byte-preserved : goal.loop-byte-preserved
loop-byte-preserved c =
    set_one (λ byte. All (CannotStand (index_of c.args.place) byte) (map grammar_of c.args.sources.now)) c.loop-byte.marked c.from.result c.some_has.result c.loop-byte.invariant (λ e. rw c.from.ensures (c.some_has.ensures e))

pub returns-2 : goal.returns-2
returns-2 c =
    set_one (λ byte. All (CannotStand (index_of c.args.place) byte) (map grammar_of c.args.sources.now)) c.loop-byte.marked c.from.result c.some_has.result c.loop-byte.invariant (λ e. rw c.from.ensures (c.some_has.ensures e))
