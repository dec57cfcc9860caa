use Rattle.std.proofs.Common.{◌≡◌, map, drop}
use Rattle.instants_edges.specs.Words.{word}
use Rattle.instants_edges.proofs.words.word.Given as goal

abbrev pub invariant-loop-form : goal.invariant-loop-form
invariant-loop-form l = word (map (λ form. form.now) (drop l.form-index l.forms)) l.bytes ≡ word (map (λ form. form.now) l.forms) l.bytes
