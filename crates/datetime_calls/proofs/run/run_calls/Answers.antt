use Rattle.std.proofs.Common.{◌≡◌, ◌+◌, [], ◌∷◌, sym, ◌∙◌, drop, get_or, arith, append_assoc, append-nil}
use Rattle.std.proofs.lemmas.List.{drop_more, drop_all}
use Rattle.datetime_calls.specs.Replies.{replies, last_start}
use Rattle.datetime_calls.proofs.run.run_calls.Goals as goal

pub loop-call-preserved : goal.loop-call-preserved
unfolding replies last_start
loop-call-preserved g c =
    let calls = c.args.calls.now in
    let i = c.loop-call.call-index in
    let call = c.call-item.result in
    let rest = drop (i + 1) calls in
    let cut : drop i calls ≡ get_or calls i call ∷ rest = drop_more calls i call c.loop-call-test.true in
    let here : drop i calls ≡ call ∷ rest = rw (← c.call-item.is) at cut in
    let answers = c.answered-reply.ensures in
    record {
      replied = rw (c.in_ok-push.ensures.items, answers.next, answers.reply, append_assoc) (rw here at c.loop-call.invariant.replied);
      last = rw answers.next (rw here at c.loop-call.invariant.last);
    }

pub returns-clause-last : goal.returns-clause-last
unfolding last_start
returns-clause-last g c =
    let calls = c.args.calls.now in
    let end : drop c.loop-call.call-index calls ≡ [] = drop_all c.loop-call.call-index calls (omega arith) in
    rw end at c.loop-call.invariant.last

pub returns-clause-replies : goal.returns-clause-replies
unfolding replies
returns-clause-replies g c =
    let calls = c.args.calls.now in
    let end : drop c.loop-call.call-index calls ≡ [] = drop_all c.loop-call.call-index calls (omega arith) in
    sym (append-nil c.loop-call.replies.items) ∙ (rw end at c.loop-call.invariant.replied)
