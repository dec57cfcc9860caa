-- The clock of transitions in order, and of those that are left of them.
use Rattle.std.proofs.Common.{◌≡◌, IsTrue, ◌&&◌, ◌⊎◌, inl, inr, subst, ◌-◌, ℕ, zero, suc, ◌+◌, ◌<◌, ◌≤◌, Bool, true, false, refl, ap, ◌∙◌, sym, arith, ℤ, ◌<ℤ◌, ◌≤ℤ◌, int_lt, int_le, List, [], ◌∷◌, ◌++◌, length, map, if◌then◌else◌, Option, Some, None}
use Rattle.std.proofs.lemmas.Int.{ints}
use Rattle.zones_clock.specs.declared.zone.Step.{Step}
use Rattle.zones_clock.specs.Steps.{offset_at, step_at, InOrder}
use Rattle.zones_clock.proofs.ClockLemmas.{all_begun, less-or-not, lt-true, lt-false}
use Rattle.zones_rule.specs.declared.rule.Summer.{Summer}
use Rattle.zones_rule.specs.declared.rule.Names.{Names}
use Rattle.zones_rule.specs.declared.years.Transition.{Transition}
use Rattle.zones_rule.specs.Years.{start_in, end_in, paired, transitions_in, first_in, second_in}
use Rattle.zones_rule.specs.Transitions.{years_from, all_years, after, without_overtaken, is_summer_by, offset_when, offset_by, step_of, steps_by, years_in_order, is_in_order, LastHasBegun, FollowsYears, IsOfYear, is_between, is_summer_in}

-- a first transition that has come, or has not
pub begun : (b : Bool) (t : Transition) (rest : List Transition) (m : ℤ) → t.at ≤ℤ m → is_summer_by b (t ∷ rest) m ≡ is_summer_by t.is_summer rest m
unfolding is_summer_by
begun b t rest m h = ap (λ v. if v then b else is_summer_by t.is_summer rest m) (lt-false m t.at h)

pub waits : (b : Bool) (t : Transition) (rest : List Transition) (m : ℤ) → m <ℤ t.at → is_summer_by b (t ∷ rest) m ≡ b
unfolding is_summer_by
waits b t rest m h = ap (λ v. if v then b else is_summer_by t.is_summer rest m) (lt-true m t.at h)

-- ---- the order of the years

abbrev pub UpTo : ℤ → Summer → ℕ → Type 0
UpTo standard summer count = (year : ℕ) → 1 ≤ year → year ≤ count → (second_in standard summer year).at ≤ℤ (first_in standard summer (year + 1)).at

last_or_before : (year count : ℕ) → year ≤ suc count → (year ≤ count) ⊎ (count + 1 ≡ year)
last_or_before year count h = grind arith

both-true : (a : Bool) (b c : ℤ) → (a && int_le b c) ≡ true → (a ≡ true) × (b ≤ℤ c)
both-true a b c e = grind (arith, ints)

pub order_of : (standard : ℤ) (summer : Summer) (count : ℕ) → years_in_order standard summer count ≡ true → UpTo standard summer count
unfolding years_in_order
order_of standard summer zero e year some within = absurd (omega arith)
order_of standard summer (suc count) e year some within =
    let both = both-true (years_in_order standard summer count) _ _ e in
    elim (last_or_before year count within) [
      | inl less ↦ order_of standard summer count both.0 year some less
      | inr same ↦ subst (λ y. (second_in standard summer y).at ≤ℤ (first_in standard summer (y + 1)).at) same both.1
    ]

-- one more year in order
pub order_next : (standard : ℤ) (summer : Summer) (year : ℕ) (last : Transition) (pair : Transition × Transition) → 1 ≤ year → last ≡ second_in standard summer year → pair ≡ transitions_in standard summer (year + 1) → last.at ≤ℤ pair.0.at
    → years_in_order standard summer (year - 1) ≡ true → years_in_order standard summer (year + 1 - 1) ≡ true
unfolding years_in_order
order_next standard summer year last pair some e f h before =
    let next : year + 1 - 1 ≡ suc (year - 1) = omega arith in
    let same : year - 1 + 1 ≡ year = omega arith in
    rw (next, before, same) (let le : (second_in standard summer year).at ≤ℤ (first_in standard summer (year + 1)).at = subst (λ p. (second_in standard summer year).at ≤ℤ p.0.at) f (subst (λ t. t.at ≤ℤ pair.0.at) e h) in grind (arith, ints, le))

-- a year that begins before the one before it ends
pub out_of_order : (standard : ℤ) (summer : Summer) (year : ℕ) (last : Transition) (pair : Transition × Transition) → 1 ≤ year → year ≤ 9_999 → last ≡ second_in standard summer year → pair ≡ transitions_in standard summer (year + 1) → pair.0.at <ℤ last.at
    → false ≡ years_in_order standard summer 9_999
out_of_order standard summer year last pair some most e f h = elim (years_in_order standard summer 9_999) as (λ v. years_in_order standard summer 9_999 ≡ v → false ≡ v) [
  | true ↦ λ order. let le : last.at ≤ℤ pair.0.at = rw (e, f) (order_of standard summer 9_999 order year some most) in absurd (omega (arith, ints, le, h))
  | false ↦ λ order. refl
] refl

-- ---- a year's clock

-- the transitions of a year that has not come change nothing
years_wait : (standard : ℤ) (summer : Summer) (b : Bool) (year count : ℕ) (m : ℤ) → m <ℤ (first_in standard summer year).at → is_summer_by b (years_from standard summer year count) m ≡ b
unfolding years_from is_summer_by
years_wait standard summer b year zero m h = refl
years_wait standard summer b year (suc count) m h = waits b (first_in standard summer year) ((second_in standard summer year) ∷ years_from standard summer (year + 1) count) m h

pair_rising : (v : Bool) (start end : Transition) → int_le start.at end.at ≡ v → (paired v start end).0.at ≤ℤ (paired v start end).1.at
pair_rising true start end e = grind (arith, ints)
pair_rising false start end e = grind (arith, ints)

pub year_rising : (standard : ℤ) (summer : Summer) (year : ℕ) → (first_in standard summer year).at ≤ℤ (second_in standard summer year).at
unfolding transitions_in
year_rising standard summer year = pair_rising _ (start_in standard summer year) (end_in standard summer year) refl

-- in its year a moment is before the second transition or not
two_now : (one two : Transition) (b : Bool) (rest : List Transition) (m : ℤ) → one.at ≤ℤ m → ((v : Bool) → is_summer_by v rest m ≡ v) → is_summer_by b (one ∷ two ∷ rest) m ≡ (if int_lt m two.at then one.is_summer else two.is_summer)
two_now one two b rest m h still = elim (less-or-not m two.at) [
  | inl lt ↦ rw (lt-true m two.at lt) (begun b one (two ∷ rest) m h ∙ waits one.is_summer two rest m lt)
  | inr le ↦ rw (lt-false m two.at le) (begun b one (two ∷ rest) m h ∙ begun one.is_summer two rest m le ∙ still two.is_summer)
]

between_now : (v : Bool) (start end : Transition) (m : ℤ) → start.is_summer ≡ true → end.is_summer ≡ false → (paired v start end).0.at ≤ℤ m → (if int_lt m (paired v start end).1.at then (paired v start end).0.is_summer else (paired v start end).1.is_summer) ≡ is_between v start.at end.at m
between_now true start end m s e h = grind (arith, ints)
between_now false start end m s e h = grind (arith, ints)

-- the clock of a moment's year
year_now : (standard : ℤ) (summer : Summer) (b : Bool) (year : ℕ) (rest : List Transition) (m : ℤ) → (first_in standard summer year).at ≤ℤ m → ((v : Bool) → is_summer_by v rest m ≡ v) → is_summer_by b ((first_in standard summer year) ∷ (second_in standard summer year) ∷ rest) m ≡ is_summer_in standard summer year m
unfolding transitions_in start_in end_in
year_now standard summer b year rest m h still =
    two_now (first_in standard summer year) (second_in standard summer year) b rest m h still
    ∙ between_now _ (start_in standard summer year) (end_in standard summer year) m refl refl h

-- a moment is of one of the years, and the clock of all is that year's
year_law : (standard : ℤ) (summer : Summer) (m : ℤ) (count : ℕ) (b : Bool) (from : ℕ) → UpTo standard summer 9_999 → 1 ≤ from → from + count ≤ 10_000 → (first_in standard summer from).at ≤ℤ m → m <ℤ (first_in standard summer (from + count)).at → (year : ℕ) × (IsOfYear standard summer year m × (is_summer_by b (years_from standard summer from count) m ≡ is_summer_in standard summer year m))
unfolding years_from
year_law standard summer m zero b from order some most h k = let e : from + 0 ≡ from = omega arith in absurd (omega (arith, ints, rw e at k, h))
year_law standard summer m (suc count) b from order some most h k = elim (less-or-not m (first_in standard summer (from + 1)).at) [
  | inl lt ↦ (from, (record { some = some; last = omega arith; begun = h; next = lt }, year_now standard summer b from _ m h (λ v. years_wait standard summer v (from + 1) count m lt)))
  | inr le ↦
      let ends : (second_in standard summer from).at ≤ℤ (first_in standard summer (from + 1)).at = order from some (omega arith) in
      let e : from + suc count ≡ from + 1 + count = omega arith in
      let later = year_law standard summer m count (second_in standard summer from).is_summer (from + 1) order (omega arith) (omega arith) le (rw e at k) in
      (later.0, (later.1.0, begun b (first_in standard summer from) _ m h ∙ begun _ (second_in standard summer from) _ m (omega (arith, ints)) ∙ later.1.1))
]

-- ---- the clock of all years, year by year

pub next_years : (standard : ℤ) (summer : Summer) (year : ℕ) → year < 10_000 → years_from standard summer year (10_000 - year) ≡ (first_in standard summer year) ∷ (second_in standard summer year) ∷ years_from standard summer (year + 1) (10_000 - (year + 1))
unfolding years_from
next_years standard summer year lt = let e : 10_000 - year ≡ suc (10_000 - (year + 1)) = omega arith in rw e refl

abbrev pub summer_from : ℤ → Summer → ℕ → Bool → ℤ → Bool
summer_from standard summer year b m = is_summer_by b (years_from standard summer year (10_000 - year)) m

-- the same with a pair that is the year's, and with what the clock of all years is
pub with_pair : (standard : ℤ) (summer : Summer) (year : ℕ) (b whole : Bool) (m : ℤ) (pair : Transition × Transition) → year < 10_000 → pair ≡ transitions_in standard summer year → summer_from standard summer year b m ≡ whole → is_summer_by b (pair.0 ∷ pair.1 ∷ years_from standard summer (year + 1) (10_000 - (year + 1))) m ≡ whole
with_pair standard summer year b whole m pair lt e is = rw (e, ← next_years standard summer year lt) is

pub after_all : (standard : ℤ) (summer : Summer) (year : ℕ) (b whole : Bool) (m : ℤ) → 10_000 ≤ year → summer_from standard summer year b m ≡ whole → b ≡ whole
unfolding years_from is_summer_by
after_all standard summer year b whole m le is = let e : 10_000 - year ≡ 0 = omega arith in rw e at is

-- ---- what is left of the transitions of all years

-- no transition comes before the one before it
abbrev pub IsRising : List Transition → Type 0
IsRising [] = Unit {0}
IsRising (one ∷ []) = Unit {0}
IsRising (one ∷ (next ∷ rest)) = (one.at ≤ℤ next.at) × IsRising (next ∷ rest)

all_rising : (standard : ℤ) (summer : Summer) → UpTo standard summer 9_999 → (year count : ℕ) → 1 ≤ year → year + count ≤ 10_000 → IsRising (years_from standard summer year count)
unfolding years_from
all_rising standard summer order year zero some last = tt
all_rising standard summer order year (suc zero) some last = (year_rising standard summer year, tt)
all_rising standard summer order year (suc (suc count)) some last = (year_rising standard summer year, (order year some (omega arith), all_rising standard summer order (year + 1) (suc count) (omega arith) (omega arith)))

after_rising : (moment : ℤ) (ts : List Transition) → IsRising ts → IsRising (after moment ts)
unfolding after
after_rising moment [] r = tt
after_rising moment (one ∷ []) r = elim (int_lt moment one.at) as (λ v. IsRising (if v then one ∷ [] else [])) [ true ↦ tt | false ↦ tt ]
after_rising moment (one ∷ (next ∷ rest)) r = elim (int_lt moment one.at) as (λ v. IsRising (if v then one ∷ (next ∷ rest) else after moment (next ∷ rest))) [
  | true ↦ r
  | false ↦ after_rising moment (next ∷ rest) r.1
]

same_instant : (b : Bool) (one next : Transition) (rest : List Transition) (m : ℤ) → one.at ≤ℤ next.at → next.at ≤ℤ one.at → is_summer_by b (next ∷ rest) m ≡ is_summer_by b (one ∷ (next ∷ rest)) m
same_instant b one next rest m le ge = elim (less-or-not m one.at) [
  | inl lt ↦ waits b next rest m (omega (arith, ints)) ∙ sym (waits b one (next ∷ rest) m lt)
  | inr came ↦
      let second : next.at ≤ℤ m = omega (arith, ints) in
      begun b next rest m second ∙ sym (begun b one (next ∷ rest) m came ∙ begun one.is_summer next rest m second)
]

-- what is overtaken changes no clock
left_clock : (ts : List Transition) (b : Bool) (m : ℤ) → IsRising ts → is_summer_by b (without_overtaken ts) m ≡ is_summer_by b ts m
unfolding without_overtaken is_summer_by
left_clock [] b m r = refl
left_clock (one ∷ []) b m r = refl
left_clock (one ∷ (next ∷ rest)) b m r = elim (less-or-not one.at next.at) [
  | inl lt ↦ rw (lt-true one.at next.at lt) (ap (λ v. if int_lt m one.at then b else v) (left_clock (next ∷ rest) one.is_summer m r.1))
  | inr le ↦ rw (lt-false one.at next.at le) (left_clock (next ∷ rest) b m r.1 ∙ same_instant b one next rest m r.0 le)
]

-- from a moment on the clock is that of the transitions after it
after_clock : (ts : List Transition) (b : Bool) (from m : ℤ) → from ≤ℤ m → is_summer_by (is_summer_by b ts from) (after from ts) m ≡ is_summer_by b ts m
unfolding after is_summer_by
after_clock [] b from m le = refl
after_clock (one ∷ rest) b from m le = elim (less-or-not from one.at) [
  | inl lt ↦ rw (lt-true from one.at lt) refl
  | inr came ↦ rw (lt-false from one.at came, lt-false m one.at (omega (arith, ints, came, le))) (after_clock rest one.is_summer from m le)
]

-- a zone's clock with the steps of transitions
step_clock : (standard : ℤ) (summer : Summer) (names : Names) (ts : List Transition) (b : Bool) (m : ℤ) → offset_at (offset_when standard summer b) (map (step_of standard summer names) ts) m ≡ offset_when standard summer (is_summer_by b ts m)
unfolding offset_at is_summer_by
step_clock standard summer names [] b m = refl
step_clock standard summer names (one ∷ rest) b m = elim (int_lt m one.at) as (λ v. (if v then offset_when standard summer b else offset_at (offset_when standard summer one.is_summer) (map (step_of standard summer names) rest) m) ≡ offset_when standard summer (if v then b else is_summer_by one.is_summer rest m)) [
  | true ↦ refl
  | false ↦ step_clock standard summer names rest one.is_summer m
]

-- ---- the steps after a zone's own

-- steps that have all begun, and others after them
joined_clock : (first : ℤ) (steps more : List Step) (from m : ℤ) → ((i : ℕ) → i < length steps → (step_at steps i).from ≤ℤ from) → from ≤ℤ m → offset_at first (steps ++ more) m ≡ offset_at (offset_at first steps from) more m
unfolding offset_at
joined_clock first [] more from m all le = refl
joined_clock first (step ∷ steps) more from m all le =
    let here : step.from ≤ℤ from = all 0 (omega arith) in
    rw (lt-false from step.from here, lt-false m step.from (omega (arith, ints, here, le))) (joined_clock step.offset steps more from m (λ i lt. all (suc i) (omega arith)) le)

-- ---- what a rule says of a year is so

pub rule_follows : (standard : ℤ) (o : Option Summer) (m : ℤ) → IsTrue (is_in_order standard o) → FollowsYears standard o m (offset_by standard o m)
rule_follows standard None m order = refl
rule_follows standard (Some summer) m order = λ h k.
    let found = year_law standard summer m 9_999 false 1 (order_of standard summer 9_999 order) (omega arith) (omega arith) h k in
    (found.0, (found.1.0, ap (offset_when standard summer) found.1.1))

all_begun_of : (steps : List Step) (t : ℤ) → InOrder steps → LastHasBegun steps t → (i : ℕ) → i < length steps → (step_at steps i).from ≤ℤ t
all_begun_of steps t order last i lt = all_begun steps (length steps - 1) t order (omega arith) (last (length steps - 1) (omega arith)) i (omega arith)

joined_by : (standard : ℤ) (o : Option Summer) (names : Names) (first : ℤ) (steps : List Step) (from m : ℤ) → IsTrue (is_in_order standard o) → ((i : ℕ) → i < length steps → (step_at steps i).from ≤ℤ from) → offset_at first steps from ≡ offset_by standard o from → from ≤ℤ m → offset_at first (steps ++ steps_by standard o names from) m ≡ offset_by standard o m
unfolding offset_at
joined_by standard None names first steps from m order all agrees le = joined_clock first steps [] from m all le ∙ agrees
joined_by standard (Some summer) names first steps from m order all agrees le =
    let years : List Transition = all_years standard summer in
    let rising : IsRising (after from years) = after_rising from years (all_rising standard summer (order_of standard summer 9_999 order) 1 9_999 (omega arith) (omega arith)) in
    joined_clock first steps _ from m all le
    ∙ ap (λ o. offset_at o (steps_by standard (Some summer) names from) m) agrees
    ∙ step_clock standard summer names (without_overtaken (after from years)) (is_summer_by false years from) m
    ∙ ap (offset_when standard summer) (left_clock (after from years) (is_summer_by false years from) m rising ∙ after_clock years false from m le)

pub clock_follows : (standard : ℤ) (o : Option Summer) (names : Names) (first again : ℤ) (steps new : List Step) (from : ℤ) → IsTrue (is_in_order standard o) → InOrder steps → LastHasBegun steps from → new ≡ steps ++ steps_by standard o names from → again ≡ first → offset_at first steps from ≡ offset_by standard o from → (m : ℤ) → from ≤ℤ m → FollowsYears standard o m (offset_at again new m)
clock_follows standard o names first again steps new from order rising last pushed same agrees m le =
    rw (same, pushed, joined_by standard o names first steps from m order (all_begun_of steps from rising last) agrees le) (rule_follows standard o m order)
