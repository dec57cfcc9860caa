use Rattle.std.proofs.Common.{◌+◌, drop, sym}
use Rattle.std.proofs.Math.Bool.{or-true}
use Rattle.instants_edges.specs.Edge.{is_edge}
use Rattle.instants_found.proofs.beside.is_read.Goals as goal

pub returns-then-not-may_read_unix_time : goal.returns-then-not-may_read_unix_time
returns-then-not-may_read_unix_time c =
    let none = c.may_read_unix_time.ensures.reads_none c.if-not-may_read_unix_time.true (drop c.args.start c.args.line.now) in
    rw (sym c.may_say.ensures, c.if-not-may_say.false, none) (sym (or-true (is_edge c.args.line.now (c.args.start + c.args.prefix.now.all))))
