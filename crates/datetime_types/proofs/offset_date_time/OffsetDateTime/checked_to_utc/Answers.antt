use Rattle.std.proofs.Common.{arith, refl}
use Rattle.std.proofs.lemmas.Int.{ints}
use Rattle.datetime_types.proofs.offset_date_time.OffsetDateTime.checked_to_utc.Goals as goal

pub returns-clause-some : goal.returns-clause-some
returns-clause-some c = let moved = c.in_ok-wall.ensures.some.0 refl in rw (← c.self.view_is) (λ e. (omega (arith, ints, moved.0, c.whole_seconds.ensures), omega (arith, ints, moved.1, c.whole_seconds.ensures)), λ k. refl)

pub returns-clause-value : goal.returns-clause-value
returns-clause-value c = rw (← c.self.view_is) (omega (arith, ints, c.from_wall.ensures.value, c.in_ok-wall.ensures.value, c.whole_seconds.ensures))
