use Rattle.std.proofs.Common.{◌≡◌, ◌==◌, ℕ, false, get_or, subst}
use Rattle.instants_found.proofs.LaneLemmas.{either_none, stands_not}
use Rattle.instants_found.proofs.keys.Keys.bits.Goals as goal

pub returns : goal.returns
returns c = λ k lt none.
    let keys = c.args.self.now in
    let line = c.args._line.now in
    let keyed = c.args.keyed.now in
    let (marked, unkeyed) = either_none _ keys.keyless k none in
    let both = either_none c.bits_of_byte-first.result c.bits_of_byte-second.result k marked in
    let P : ℕ → ℕ → Type 0 = λ lane byte. (lane == byte) ≡ false in (
      keys.all_or_none k lt unkeyed,
      stands_not keys.first line keyed.first.now c.load.result c.args.at c.requires.keyed.first c.load.ensures k lt (subst (P (get_or c.load.result k 0)) keys.first_spread (c.bits_of_byte-first.ensures k lt both.0)),
      stands_not keys.second line keyed.second.now c.load-2.result c.args.at c.requires.keyed.second c.load-2.ensures k lt (subst (P (get_or c.load-2.result k 0)) keys.second_spread (c.bits_of_byte-second.ensures k lt both.1)),
    )
