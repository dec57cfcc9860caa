-- Lemmas of std, under names that functions can name.
use Rattle.std.proofs.lemmas.List.Folds.{length-prefix_len}
use Rattle.std.proofs.lemmas.Int.{to_z-of_z}

-- the length of the prefix that passes a test
pub ruleset prefix_count = length-prefix_len

-- a signed number as it is passed on
pub ruleset passed = to_z-of_z
