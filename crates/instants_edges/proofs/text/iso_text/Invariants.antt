use Rattle.instants_edges.specs.Text.{iso_end}
use Rattle.instants_edges.proofs.Texts.{GoesOn}
use Rattle.instants_edges.proofs.text.iso_text.Given as goal

abbrev pub invariant-loop-place : goal.invariant-loop-place
invariant-loop-place l = GoesOn iso_end l.bytes l.place
