use Rattle.std.proofs.Common.{◌≡◌, map, drop}
use Rattle.instants_edges.specs.Words.{begun}
use Rattle.instants_edges.proofs.words.begun.Given as goal

abbrev pub invariant-loop-form : goal.invariant-loop-form
invariant-loop-form l = begun (map (λ form. form.now) (drop l.form-index l.forms)) l.bytes ≡ begun (map (λ form. form.now) l.forms) l.bytes
