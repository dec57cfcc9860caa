use Rattle.std.proofs.Common.{◌≡◌, Some, sym, ◌∙◌}
use Rattle.std.specs.Prelude.{◌+ℤ◌}
use Rattle.instants_timeline.proofs.Shows.{shown_at_target}
use Rattle.instants.proofs.Placed.{moved_by_difference, sum_is, has_line}
use Rattle.instants.proofs.laws.moments.difference_added.Goals as goal

pub returns : goal.returns
returns c =
    let first : c.args.a.offset ≡ c.args.b.offset → c.checked_add.result ≡ Some c.args.a = λ offset.
    let wall : c.args.b.wall +ℤ c.sub.result ≡ c.args.a.wall = rw c.sub.ensures (moved_by_difference c.args.a c.args.b offset) in
    sum_is c.checked_add.result c.args.a c.args.b c.sub.result (c.checked_add.ensures.some.1 (rw wall c.date.ensures.range)) c.checked_add.ensures.value wall offset in
    record {
      some = rw c.sub.ensures at c.checked_add.ensures.some;
      sum = rw c.sub.ensures at c.checked_add.ensures.value;
      one_offset = first;
      places = λ one other line another target h g. first (shown_at_target one line c.args.a h ∙ target ∙ sym (shown_at_target other another c.args.b g));
      line = λ one other line another target h g. has_line one line c.args.a c.checked_add.result h (first (shown_at_target one line c.args.a h ∙ target ∙ sym (shown_at_target other another c.args.b g)));
    }
