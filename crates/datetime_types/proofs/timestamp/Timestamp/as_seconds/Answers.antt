use Rattle.std.proofs.Common.{sym, ◌∙◌, ◌≡◌, to_z, of_z, w64, arith}
use Rattle.std.proofs.lemmas.Int.{ints}
use Rattle.datetime_types.specs.Unix.{seconds_back}
use Rattle.datetime_types.proofs.timestamp.Timestamp.as_seconds.Goals as goal

pub returns-clause-value : goal.returns-clause-value
returns-clause-value c =
    let s = c.self.inside.seconds in
    let back : to_z w64 (of_z w64 s) ≡ s = omega (arith, ints, c.self.invariant.0) in
    rw (← c.self.view_is) (back ∙ sym (seconds_back s c.self.inside.nanoseconds c.self.invariant.1))
