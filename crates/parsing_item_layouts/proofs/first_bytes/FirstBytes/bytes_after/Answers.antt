use Rattle.std.proofs.Common.{get_or}
use Rattle.parsing_item_layouts.proofs.FrontLemmas.{all_true}
use Rattle.parsing_item_layouts.proofs.first_bytes.FirstBytes.bytes_after.Goals as goal

pub returns-then-not-stretch : goal.returns-then-not-stretch
returns-then-not-stretch c = λ line rest cut fits. all_true 256 (get_or line c.args.place 0)
