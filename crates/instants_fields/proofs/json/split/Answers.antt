use Rattle.std.proofs.Common.{◌≤◌, length, sym, arith}
use Rattle.std.proofs.lemmas.List.{take_all, drop_all}
use Rattle.instants_fields.specs.Members.{longest}
use Rattle.instants_fields.proofs.json.split.Goals as goal

pub returns-then-line-le-LONGEST-clause-first : goal.returns-then-line-le-LONGEST-clause-first
returns-then-line-le-LONGEST-clause-first c = let h : length c.args.line.now ≤ longest = omega arith in sym (take_all longest c.args.line.now h)

pub returns-then-line-le-LONGEST-clause-others : goal.returns-then-line-le-LONGEST-clause-others
returns-then-line-le-LONGEST-clause-others c = let h : length c.args.line.now ≤ longest = omega arith in sym (drop_all longest c.args.line.now h)
