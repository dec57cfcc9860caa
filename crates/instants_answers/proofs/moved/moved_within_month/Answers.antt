use Rattle.std.proofs.Common.{◌≡◌, ℕ, ◌+◌, ◌≤◌, rules, arith, pos}
use Rattle.calendar_count.specs.Calendar.{day_at, ymd, days_in_month}
use Rattle.calendar_count.proofs.lemmas.Signed.{signed}
use Rattle.instants_answers.proofs.MovedLemmas.{moved, same_month}
use Rattle.instants_answers.proofs.moved.moved_within_month.Goals as goal

pub returns : goal.returns
returns c =
    let f = c.args.fields.now in
    let here = c.count_of_day.result in
    let there = c.count_of_day-2.result in
    let day : ℕ = c.from.result in
    let days : ℕ = c.whole_days-days.result in
    let last : day ≤ days_in_month (pos f.year) f.month = search rules in
    let is_here : day_at here ≡ ymd (pos f.year) f.month f.day = search rules in
    let is_there : day_at there ≡ ymd (pos f.year) f.month day = search rules in
    let apart : there + f.day ≡ here + day = same_month (pos f.year) f.month f.day day here there is_here is_there f.day_is_there.4 last in
    let later : day + 4 ≡ f.day + days = search rules in
    moved f here there day c.from-2.result _ c.count_of_day.ensures.bound c.count_of_day-2.ensures.bound is_here is_there last (omega (arith, c.from-2.ensures)) (omega (arith, signed))
