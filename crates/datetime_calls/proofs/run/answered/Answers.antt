use Rattle.std.proofs.Common.{sym, refl}
use Rattle.datetime_calls.specs.Replies.{reply_to}
use Rattle.datetime_calls.proofs.ReplyLemmas.{weekday_named}
use Rattle.datetime_calls.proofs.run.answered.Goals as goal

pub returns-in-Weekday-clause-reply : goal.returns-in-Weekday-clause-reply
unfolding reply_to
returns-in-Weekday-clause-reply g c =
    rw (c.in-Weekday.is, weekday_named c.weekday.result _ (sym c.weekday.ensures)) refl
