use Rattle.std.proofs.Common.{◌≡◌, ◌++◌, drop}
use Rattle.datetime_calls.specs.Replies.{replies, last_start}
use Rattle.datetime_calls.proofs.run.run_calls.Given as goal

-- with the replies to the calls that are left, all replies; likewise the last moment
abbrev pub invariant-loop-call : goal.invariant-loop-call
invariant-loop-call g l = record {
  replied : l.replies.items ++ replies (g.M.Moment.instant l.moment) (drop l.call-index l.calls) ≡ replies (g.M.Moment.instant l.fn.start) l.calls;
  last : last_start (g.M.Moment.instant l.moment) (drop l.call-index l.calls) ≡ last_start (g.M.Moment.instant l.fn.start) l.calls;
}
