use Rattle.parsing_values.specs.Moment.{moment_of}
use Rattle.instants_sources.specs.Grammar.{written}
use Rattle.instants_prefixes.specs.DateSource.{grammar_in}
use Rattle.instants_prefixes.proofs.Planned.{planned_lies, planned_at}
use Rattle.instants_prefixes.proofs.date_source.DateSource.planned.Goals as goal

pub of_extent-requires : goal.of_extent-requires
of_extent-requires g c =
    let source = c.args.self.now in
    planned_lies c.args.given.now (grammar_in source) (written c.in_ok-described.described.now.description) c.args.bytes.now c.near-text.result.now c.in-Some.rest.now (moment_of c.in-Some.fields) source.contents source.ends c.assumed.result c.in-Some-extent_by_texts.extent
    c.in_ok-described.ensures c.near-text.ensures source.has source.begins c.if-self.false c.assumed.ensures c.in-Some.ensures.prefix (rw c.saturating_sub-read.ensures at c.in-Some-extent_by_texts.ensures)

pub returns : goal.returns
returns g c =
    let source = c.args.self.now in
    rw (c.of_extent.ensures, c.of_fields-moment.ensures)
    (planned_at c.args.given.now (grammar_in source) (written c.in_ok-described.described.now.description) c.args.bytes.now c.near-text.result.now c.in-Some.rest.now (moment_of c.in-Some.fields) source.contents source.ends c.assumed.result c.in-Some-extent_by_texts.extent
    c.in_ok-described.ensures c.near-text.ensures source.has source.begins c.if-self.false c.assumed.ensures c.in-Some.ensures.prefix (rw c.saturating_sub-read.ensures at c.in-Some-extent_by_texts.ensures))
