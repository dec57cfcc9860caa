use Rattle.datetime_wall.specs.Wall.{instant}
use Rattle.instants_memory.specs.Numbers.{numbers_of}
use Rattle.instants_memory.proofs.Unix.{both_parts, few_nanoseconds}
use Rattle.instants_memory.proofs.laws.exact_numbers.Goals as goal

pub returns-clause-instant : goal.returns-clause-instant
unfolding numbers_of
returns-clause-instant c = λ moment. both_parts (instant moment)

pub returns-clause-within : goal.returns-clause-within
unfolding numbers_of
returns-clause-within c = λ moment. few_nanoseconds (instant moment)
