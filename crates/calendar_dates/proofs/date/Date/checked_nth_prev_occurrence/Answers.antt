use Rattle.std.proofs.Common.{arith, refl}
use Rattle.calendar_count.specs.Weekday.{days_from_monday}
use Rattle.calendar_count.proofs.lemmas.Steps.{weekday_bound}
use Rattle.calendar_dates.proofs.OccurrenceLemmas.{nth_before, nth_before_only, nth_before_some}
use Rattle.calendar_dates.proofs.date.Date.checked_nth_prev_occurrence.Goals as goal

pub returns-then-n-eq0-clause-some : goal.returns-then-n-eq0-clause-some
returns-then-n-eq0-clause-some c =
    (λ no. absurd (cc), λ h. absurd (omega (arith, nth_before_some (days_from_monday c.args.weekday) c.args.n c.args.self h.0 (weekday_bound c.args.weekday) h.2)))

pub returns-then-back-count-clause-some : goal.returns-then-back-count-clause-some
returns-then-back-count-clause-some c = (
  λ no. absurd (cc),
  λ h.
      let is = nth_before_only (days_from_monday c.args.weekday) c.args.n c.args.self c.days_since.result h.0 (weekday_bound c.args.weekday) c.days_since.ensures.bound.0 c.days_since.ensures.bound.1 c.days_since.ensures.value h.2 in
      absurd (omega (arith, h.1)),
)

pub returns-clause-some : goal.returns-clause-some
returns-clause-some c =
    (λ _. (c.from_count.result, c.from_count.ensures.bound, nth_before _ _ _ c.days_since.result _ (weekday_bound c.args.weekday) (omega arith) c.days_since.ensures.bound.0 c.days_since.ensures.bound.1 c.days_since.ensures.value (omega arith)), λ _. refl)

pub returns-clause-value : goal.returns-clause-value
returns-clause-value c =
    nth_before _ _ _ c.days_since.result _ (weekday_bound c.args.weekday) (omega arith) c.days_since.ensures.bound.0 c.days_since.ensures.bound.1 c.days_since.ensures.value (omega arith)
