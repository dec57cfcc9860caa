use Rattle.parsing_values.specs.Moment.{moment_of}
use Rattle.instants_prefixes.proofs.Wholly.{wholly, wholly_within}
use Rattle.instants_prefixes.proofs.date_source.DateSource.read_whole.Goals as goal

pub returns-clause-within : goal.returns-clause-within
returns-clause-within c =
    let read = wholly c.args.text.now (moment_of c.in-Some.fields) c.in-Some.ensures.some c.in-Some.ensures.short c.in-Some.ensures.names in
    rw (c.whole.ensures, c.of_fields.ensures) (wholly_within _ _ read)
