use Rattle.std.proofs.Common.{◌≡◌, ◌+◌, [], ◌∷◌, ◌++◌, map, sym, ap, ◌∙◌, append_assoc, append-nil, rules}
use Rattle.std.specs.Prelude.{Result, Ok, Err, OnOk}
use Rattle.std.proofs.lemmas.List.{map-append}
use Rattle.instants_words.specs.Sources.{said_by}
use Rattle.instants_words.proofs.SourceLemmas.{step_ok, end_ok}
use Rattle.instants_words.proofs.sources.+push_sources.Goals as goal

pub returns-in_default-clause-ok : goal.returns-in_default-clause-ok
returns-in_default-clause-ok t c = λ place all e. rw (end_ok place _ all e (sym c.in_default.ensures.said)) (sym (append-nil _))

on_ok : {T E P Q : Type 0} (result : Result T E) → OnOk result P → (P → Q) → OnOk result Q
on_ok (Ok done) p then = then p
on_ok (Err fault) p then = tt

pub returns-clause-ok : goal.returns-clause-ok
returns-clause-ok t c =
    let old = c.args.texts.now.items in
    let pushed : c.push.new.self.items ≡ old ++ c.in-Some.text ∷ [] = search rules in
    on_ok c.push_sources.result c.push_sources.ensures.ok (λ later place all e.
    let (rest, reads, are) = step_ok place _ _ _ all e (sym c.in-Some.ensures.said) in
    later (place + 1) rest reads ∙ ap (λ said. said ++ rest) (ap (map said_by) pushed ∙ map-append said_by old (c.in-Some.text ∷ []))
    ∙ append_assoc (map said_by old) (said_by c.in-Some.text ∷ []) rest ∙ ap (λ said. map said_by old ++ said) (sym are))
