use Rattle.std.proofs.Common.{get_or, replicate, true}
use Rattle.parsing_item_layouts.proofs.FrontLemmas.{all_true, fits_four}
use Rattle.parsing_item_layouts.proofs.first_bytes.FirstBytesFront.end.Goals as goal

pub returns-clause-any : goal.returns-clause-any
returns-clause-any c = λ line. let all = replicate 256 true in fits_four all all all all line
    (all_true 256 (get_or line 0 0)) (all_true 256 (get_or line 1 0)) (all_true 256 (get_or line 2 0)) (all_true 256 (get_or line 3 0))
