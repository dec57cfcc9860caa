use Rattle.std.proofs.Common.{refl}
use Rattle.parsing_item_layouts.proofs.FrontLemmas.{all_true}
use Rattle.parsing_item_layouts.proofs.first_bytes.joined.Goals as goal

pub loop-byte-init : goal.loop-byte-init
loop-byte-init c = (refl, (λ b _. all_true 256 b), λ b _. all_true 256 b)
