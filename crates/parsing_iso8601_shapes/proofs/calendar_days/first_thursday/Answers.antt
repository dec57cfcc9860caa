use Rattle.std.proofs.Common.{◌≡◌, ◌+◌, ◌∙◌, arith}
use Rattle.parsing_iso8601_shapes.specs.Days.{first_thursday_of, year_by}
use Rattle.parsing_iso8601_shapes.proofs.DayLemmas.{thursday_by}
use Rattle.parsing_iso8601_shapes.proofs.calendar_days.first_thursday.Goals as goal

pub overflow_sub-result : goal.overflow_sub-result
overflow_sub-result c =
    let there : c.from-3.result ≡ first_thursday_of (year_by c.args.century c.args.last_two) + 48 = c.from-3.ensures ∙ rw (c.from.ensures, c.from-2.ensures) (thursday_by c.args.century c.args.last_two c.requires.last_two) in
    omega (arith, there, c.from-4.ensures)

pub returns-clause-bound : goal.returns-clause-bound
returns-clause-bound c =
    let there : c.from-3.result ≡ first_thursday_of (year_by c.args.century c.args.last_two) + 48 = c.from-3.ensures ∙ rw (c.from.ensures, c.from-2.ensures) (thursday_by c.args.century c.args.last_two c.requires.last_two) in
    omega (arith, there, c.from-4.ensures)
