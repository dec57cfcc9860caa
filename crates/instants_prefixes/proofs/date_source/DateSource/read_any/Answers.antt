use Rattle.std.proofs.Common.{inl, inr}
use Rattle.instants_prefixes.specs.DateSource.{grammar_in}
use Rattle.instants_prefixes.proofs.PrefixesAt.{named_leaves}
use Rattle.instants_prefixes.proofs.date_source.DateSource.read_any.Goals as goal

pub extent_of-extent-requires-clause-read : goal.extent_of-extent-requires-clause-read
extent_of-extent-requires-clause-read c =
    let leaves = named_leaves c.args.given.now (grammar_in c.args.self.now) c.text_for-text.result.now c.in-Some.moment c.in-Some.rest.now c.in-Some.ensures in
    rw c.description.ensures (elim c.in-Items.is [ inl e ↦ (rw e at leaves) | inr e ↦ (rw e at leaves) ])
