use Rattle.instants_edges.specs.Text.{mail_end}
use Rattle.instants_edges.proofs.Texts.{GoesOn}
use Rattle.instants_edges.proofs.text.mail_text.Given as goal

abbrev pub invariant-loop-place : goal.invariant-loop-place
invariant-loop-place l = GoesOn mail_end l.bytes l.place
