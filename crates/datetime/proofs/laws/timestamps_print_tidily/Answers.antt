use Rattle.datetime.proofs.TextLemmas.{no_zero_at_end, no_negative_zero}
use Rattle.datetime.proofs.laws.timestamps_print_tidily.Goals as goal

pub returns : goal.returns
returns c = λ i h. record { no_zero_at_end = no_zero_at_end i h; no_negative_zero = no_negative_zero i h }
