use Rattle.std.proofs.Common.{subst}
use Rattle.description_tree.specs.Description.{v3_tree}
use Rattle.description_tree.specs.Reserved.{IsLongest}
use Rattle.description_tree.proofs.Longest.{reserved_is_longest}
use Rattle.description_tree.proofs.description.FormatDescriptionV3.max_bytes_needed.Goals as goal

pub returns-clause-longest : goal.returns-clause-longest
returns-clause-longest c = subst (IsLongest (v3_tree c.args.self.now)) c.args.self.now.exact (reserved_is_longest (v3_tree c.args.self.now))
