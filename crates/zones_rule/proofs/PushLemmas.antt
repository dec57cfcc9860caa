-- One more transition: what is added, and what is put off.
use Rattle.std.proofs.Common.{refl, ◌≡◌, true, ℕ, ◌+◌, ◌-◌, ◌<◌, ◌≤◌, ap, ◌∙◌, sym, subst, arith, ℤ, ◌<ℤ◌, ◌≤ℤ◌, List, [], ◌∷◌, ◌++◌, append_assoc, append-nil, length-append, length, Option, Some, None}
use Rattle.std.proofs.lemmas.Int.{ints}
use Rattle.std.proofs.lemmas.List.{get_or_push}
use Rattle.zones_clock.specs.declared.zone.Step.{Step}
use Rattle.zones_clock.specs.Steps.{step_at, no_step, ComesAfter}
use Rattle.zones_rule.specs.declared.years.Transition.{Transition}
use Rattle.zones_rule.specs.declared.years.Clock.{Clock}
use Rattle.zones_rule.specs.declared.rule.Names.{Names}
use Rattle.zones_rule.specs.declared.rule.Summer.{Summer}
use Rattle.zones_rule.specs.Years.{transitions_in, first_in}
use Rattle.zones_rule.specs.Transitions.{after, without_overtaken, step_of, years_from, years_in_order}
use Rattle.zones_rule.specs.Pushing.{steps_left, LosesNothing, IsReady}
use Rattle.zones_rule.proofs.TransitionLemmas.{order_of, year_rising, next_years}
use Rattle.zones_clock.proofs.ClockLemmas.{lt-true, lt-false}

-- the first that comes after the moment is put off
pub starts : (clock : Clock) (names : Names) (moment : ℤ) (steps : List Step) (pending : Option Transition) (next : Transition) → pending ≡ None → moment <ℤ next.at → LosesNothing clock names moment steps (Some next) steps pending next
unfolding after
starts clock names moment steps pending next e h rest = rw (e, lt-true moment next.at h) refl

-- until then nothing is
pub passes : (clock : Clock) (names : Names) (moment : ℤ) (steps : List Step) (pending : Option Transition) (next : Transition) → pending ≡ None → next.at ≤ℤ moment → LosesNothing clock names moment steps None steps pending next
unfolding after
passes clock names moment steps pending next e h rest = rw (e, lt-false moment next.at h) refl

-- what was put off is added before a later one
pub adds : (clock : Clock) (names : Names) (moment : ℤ) (new old : List Step) (step : Step) (pending : Option Transition) (last next : Transition) → pending ≡ Some last → last.at <ℤ next.at → step ≡ step_of clock.standard clock.summer names last → new ≡ old ++ step ∷ [] → LosesNothing clock names moment new (Some next) old pending next
unfolding without_overtaken
adds clock names moment new old step pending last next e h s pushed rest = rw (e, pushed, s, lt-true last.at next.at h) (append_assoc old _ _)

-- or overtaken
pub overtakes : (clock : Clock) (names : Names) (moment : ℤ) (steps : List Step) (pending : Option Transition) (last next : Transition) → pending ≡ Some last → next.at ≤ℤ last.at → LosesNothing clock names moment steps (Some next) steps pending next
unfolding without_overtaken
overtakes clock names moment steps pending last next e h rest = rw (e, lt-false last.at next.at h) refl

-- an instant after the last step that was added
pub comes_after : (new old : List Step) (step : Step) (from : ℤ) → new ≡ old ++ step ∷ [] → step.from <ℤ from → ComesAfter new from
comes_after new old step from e h i last =
    let n : i + 1 ≡ length (old ++ step ∷ []) = last ∙ ap length e in
    let at_end : step_at (old ++ step ∷ []) i ≡ step = get_or_push old step no_step i (omega (arith, length-append old (step ∷ []))) in
    subst (λ s. s.from <ℤ from) (sym (ap (λ l. step_at l i) e ∙ at_end)) h

-- what is put off is so too until a later instant
pub ready_until : (steps : List Step) (moment : ℤ) (pending : Option Transition) (until more : ℤ) → until ≤ℤ more → IsReady steps moment pending until → IsReady steps moment pending more
ready_until steps moment None until more le h = h
ready_until steps moment (Some pending) until more le h = (h.0, let k : pending.at ≤ℤ until = h.1 in omega (arith, ints))

pub ready_in_year : (standard : ℤ) (summer : Summer) (year : ℕ) (pair : Transition × Transition) (steps : List Step) (moment : ℤ) (pending : Option Transition) → pair ≡ transitions_in standard summer year → IsReady steps moment pending pair.0.at → IsReady steps moment pending pair.1.at
ready_in_year standard summer year pair steps moment pending e h =
    ready_until steps moment pending pair.0.at pair.1.at (subst (λ p. p.0.at ≤ℤ p.1.at) (sym e) (year_rising standard summer year)) h

pub ready_next_year : (standard : ℤ) (summer : Summer) (year : ℕ) (pair : Transition × Transition) (steps : List Step) (moment : ℤ) (pending : Option Transition) → years_in_order standard summer 9_999 ≡ true → 1 ≤ year → year ≤ 9_999 → pair ≡ transitions_in standard summer year → IsReady steps moment pending pair.1.at → IsReady steps moment pending (first_in standard summer (year + 1)).at
ready_next_year standard summer year pair steps moment pending order some most e h =
    ready_until steps moment pending pair.1.at _ (subst (λ p. p.1.at ≤ℤ (first_in standard summer (year + 1)).at) (sym e) (order_of standard summer 9_999 order year some most)) h

-- one more year
pub year_pushed : (clock : Clock) (names : Names) (moment : ℤ) (year : ℕ) (pair : Transition × Transition) (old more new whole : List Step) (one two three : Option Transition) → year < 10_000 → pair ≡ transitions_in clock.standard clock.summer year → LosesNothing clock names moment more two old one pair.0 → LosesNothing clock names moment new three more two pair.1 → old ++ steps_left clock names moment one (years_from clock.standard clock.summer year (10_000 - year)) ≡ whole → new ++ steps_left clock names moment three (years_from clock.standard clock.summer (year + 1) (10_000 - (year + 1))) ≡ whole
year_pushed clock names moment year pair old more new whole one two three lt e f g is =
    let rest : List Transition = years_from clock.standard clock.summer (year + 1) (10_000 - (year + 1)) in
    g rest ∙ f (pair.1 ∷ rest) ∙ rw (e, ← next_years clock.standard clock.summer year lt) is

no_years : (clock : Clock) (names : Names) (moment : ℤ) (year : ℕ) (old whole : List Step) (pending : Option Transition) → 10_000 ≤ year → old ++ steps_left clock names moment pending (years_from clock.standard clock.summer year (10_000 - year)) ≡ whole → old ++ steps_left clock names moment pending [] ≡ whole
unfolding years_from
no_years clock names moment year old whole pending le is = let e : 10_000 - year ≡ 0 = omega arith in rw e at is

-- the last that was put off is added, if there is one
pub last_pushed : (clock : Clock) (names : Names) (moment : ℤ) (year : ℕ) (old new whole : List Step) (step : Step) (pending : Option Transition) (last : Transition) → 10_000 ≤ year → pending ≡ Some last → step ≡ step_of clock.standard clock.summer names last → new ≡ old ++ step ∷ [] → old ++ steps_left clock names moment pending (years_from clock.standard clock.summer year (10_000 - year)) ≡ whole → new ≡ whole
unfolding without_overtaken
last_pushed clock names moment year old new whole step pending last le e s pushed is =
    pushed ∙ ap (λ x. old ++ x ∷ []) s ∙ ap (λ p. old ++ steps_left clock names moment p []) (sym e)
    ∙ no_years clock names moment year old whole pending le is

pub none_pushed : (clock : Clock) (names : Names) (moment : ℤ) (year : ℕ) (old whole : List Step) (pending : Option Transition) → 10_000 ≤ year → pending ≡ None → old ++ steps_left clock names moment pending (years_from clock.standard clock.summer year (10_000 - year)) ≡ whole → old ≡ whole
unfolding after without_overtaken
none_pushed clock names moment year old whole pending le e is =
    sym (append-nil old) ∙ ap (λ p. old ++ steps_left clock names moment p []) (sym e)
    ∙ no_years clock names moment year old whole pending le is
