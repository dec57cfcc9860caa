use Rattle.std.proofs.Common.{◌≡◌, [], Ok, sym, ap, ◌∙◌, rules}
use Rattle.std.proofs.lemmas.List.{length-map}
use Rattle.instants_words.proofs.SourceLemmas.{counted_ok, said_some}
use Rattle.instants_words.proofs.sources.Sources.read.Goals as goal

pub returns-clause-ok : goal.returns-clause-ok
returns-clause-ok c =
    let none : c.in_ok-texts.texts.items ≡ [] = search rules in
    let (all, e) = counted_ok 0 _ _ c.in_ok-count.ensures.count in
    e ∙ ap Ok (sym (rw none at (c.in_ok-push_sources.ensures.ok 1 all e)))

pub returns-clause-some : goal.returns-clause-some
returns-clause-some c = λ some.
    let none : c.in_ok-texts.texts.items ≡ [] = search rules in
    let (all, e) = counted_ok 0 _ _ c.in_ok-count.ensures.count in
    said_some 1 _ _ (rw (length-map c.args.words.now (λ word. word.now)) some) (e ∙ ap Ok (sym (rw none at (c.in_ok-push_sources.ensures.ok 1 all e))))
