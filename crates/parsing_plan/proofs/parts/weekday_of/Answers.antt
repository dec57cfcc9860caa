use Rattle.std.proofs.Common.{arith}
use Rattle.parsing_shapes.proofs.FrontLemmas.{weekday_room}
use Rattle.parsing_plan.proofs.parts.weekday_of.Goals as goal

pub weekday_name_at-requires : goal.weekday_name_at-requires
weekday_name_at-requires c = omega (arith, c.requires.long, weekday_room c.args.shape.now c.args.beside.now c.requires.ready c.in-Some.place c.in-Some.is)

pub returns-in-Some-clause-says : goal.returns-in-Some-clause-says
returns-in-Some-clause-says c = rw c.in-Some.is c.weekday_name_at.ensures.says
