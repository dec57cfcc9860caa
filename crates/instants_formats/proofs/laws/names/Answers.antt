-- The names are compared one with another.
use Rattle.std.proofs.Common.{refl}
use Rattle.instants_formats.specs.Table.{table}
use Rattle.instants_formats.proofs.laws.names.Goals as goal

pub returns-clause-distinct : goal.returns-clause-distinct
unfolding table
returns-clause-distinct c = refl

pub returns-clause-free : goal.returns-clause-free
unfolding table
returns-clause-free c = refl

pub returns-clause-languages : goal.returns-clause-languages
unfolding table
returns-clause-languages c = refl
