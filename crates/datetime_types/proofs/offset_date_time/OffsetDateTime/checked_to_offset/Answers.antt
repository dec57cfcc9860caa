use Rattle.std.proofs.Common.{arith, sym, refl, ◌∙◌, ℤ, pos, ◌+ℤ◌, ◌-ℤ◌, ◌*ℤ◌}
use Rattle.std.proofs.lemmas.Int.{ints}
use Rattle.datetime_wall.specs.Wall.{second_nanos, Shown, IsWallClock}
use Rattle.datetime_wall.proofs.lemmas.Shown.{shown_at_some, shown_at_none}
use Rattle.datetime_types.proofs.offset_date_time.OffsetDateTime.checked_to_offset.Goals as goal

pub returns-clause-value : goal.returns-clause-value
returns-clause-value c =
    let own = c.self.inside in
    let shown : Shown = record { wall = own.wall; offset = own.offset } in
    let moved : ℤ = c.in_ok-wall.wall in
    rw (← c.self.view_is, c.from_wall.ensures.value) (sym (shown_at_some shown c.args.offset moved (omega (arith, ints, c.in_ok-wall.ensures.value)) c.from_wall.ensures.range.0))

pub returns-in_err-wall-clause-value : goal.returns-in_err-wall-clause-value
returns-in_err-wall-clause-value c =
    let own = c.self.inside in
    let shown : Shown = record { wall = own.wall; offset = own.offset } in
    let moved : ℤ = own.wall +ℤ (c.args.offset -ℤ own.offset) *ℤ pos second_nanos in
    let without : ¬ IsWallClock moved = λ k. (let some = c.in_err-wall.ensures.some.1 (omega (arith, ints, k.0), omega (arith, ints, k.1)) in cc some) in
    rw (← c.self.view_is) (c.from_residual.ensures ∙ sym (shown_at_none shown c.args.offset moved refl without))
