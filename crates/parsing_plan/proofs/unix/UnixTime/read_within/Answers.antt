use Rattle.std.proofs.Common.{◌+◌, ◌*◌, ◌<◌, sym, arith}
use Rattle.parsing_plan.proofs.Timestamps.{unix_lines, ten_read}
use Rattle.parsing_plan.proofs.unix.UnixTime.read_within.Goals as goal

pub returns : goal.returns
returns c = λ assumed m defaults reads_it start.
    let line = c.args.line.now in
    let ten = ten_read line c.in_ok-first.rest.now c.in_ok-last._after.now c.in_ok-first.first c.in_ok-last.last (sym c.in_ok-first.ensures.cut) c.in_ok-last.ensures.digits in
    let below : c.from.result * 1_000_000_000 + c.from-2.result < 10_000_000_000 = omega (arith, c.from.ensures, c.from-2.ensures, c.in_ok-first.ensures.bound, c.in_ok-last.ensures.bound) in
    unix_lines line c.in_ok-last._after.now c.args.self.now.finer (c.from.result * 1_000_000_000 + c.from-2.result) c.in_ok-fraction.fraction m defaults assumed c.of_unix.result c.args.self.now.few (sym c.if-line-self.false) below c.in_ok-fraction.ensures.bound (rw (c.from.ensures, c.from-2.ensures) ten) c.in_ok-fraction.ensures.writes c.of_unix.ensures reads_it start
