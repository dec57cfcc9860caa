-- The moments at which a clock shows a reading, part by part: those between two steps.
use Rattle.std.proofs.Common.{◌≡◌, ℕ, zero, suc, ◌+◌, ◌<◌, ◌≤◌, nat_lt, inl, inr, refl, ap, ◌∙◌, sym, arith, Bool, true, false, cond, ℤ, pos, ◌+ℤ◌, ◌-ℤ◌, ◌<ℤ◌, ◌≤ℤ◌, int_le, int_lt, List, [], ◌∷◌, ◌++◌, length, drop, subst, drop-cons}
use Rattle.std.specs.List.{filter}
use Rattle.std.proofs.Math.Bool.{and-false, and-true}
use Rattle.std.proofs.lemmas.Int.{ints}
use Rattle.std.proofs.lemmas.List.{append-nil, drop_all, get_or-drop, length-drop}
use Rattle.std.proofs.lemmas.List.Elements.{filter-append}
use Rattle.std.proofs.lemmas.Bool.{cases_lt}
use Rattle.std.proofs.lemmas.Bool.Decides.{nat_tests}
use Rattle.zones_clock.specs.declared.zone.Step.{Step}
use Rattle.zones_clock.specs.declared.zone.Moments.{Moments}
use Rattle.zones_clock.specs.declared.zone.Moments.TheVariants.{Skipped, One}
use Rattle.zones_clock.specs.Steps.{InOrder, AreOffsets, IsOffset, no_step, offset_after, step_at}
use Rattle.zones_clock.specs.Clock.{with_moment}
use Rattle.zones_clock.specs.Search.{AllBegun, have_begun, has_next_begun, moment_between}
use Rattle.zones_clock.specs.AllMoments.{all_moments, moments_of, with_moments}
use Rattle.zones_clock.proofs.ClockLemmas.{le-true, le-false, lt-true, lt-false, less-or-not, next-order, offset_after-in}

-- ---- filters

filter-kept : (p : ℤ → Bool) (ms : List ℤ) → ((m : ℤ) → p m ≡ true) → filter p ms ≡ ms
filter-kept p [] h = refl
filter-kept p (m ∷ ms) h = rw (h m, filter-kept p ms h) refl

filter-implied : (p q : ℤ → Bool) (ms : List ℤ) → ((m : ℤ) → q m ≡ true → p m ≡ true) → filter p (filter q ms) ≡ filter q ms
filter-implied p q [] h = refl
filter-implied p q (m ∷ ms) h = elim (q m) as (λ b. q m ≡ b → filter p (cond b (m ∷ filter q ms) (filter q ms)) ≡ cond b (m ∷ filter q ms) (filter q ms)) [
  | true ↦ λ e. rw (h m e, filter-implied p q ms h) refl
  | false ↦ λ e. filter-implied p q ms h
] refl

filter-none : (p q : ℤ → Bool) (ms : List ℤ) → filter p ms ≡ [] → filter p (filter q ms) ≡ []
filter-none p q [] h = refl
filter-none p q (m ∷ ms) h = elim (p m) as (λ b. p m ≡ b → cond b (m ∷ filter p ms) (filter p ms) ≡ [] → filter p (filter q (m ∷ ms)) ≡ []) [
  | true ↦ λ e none. absurd cc
  | false ↦ λ e none. elim (q m) as (λ b. filter p (cond b (m ∷ filter q ms) (filter q ms)) ≡ []) [
    | true ↦ rw e (filter-none p q ms none)
    | false ↦ filter-none p q ms none
  ]
] refl h

-- ---- from one step to the next

-- the moments from the last of so many steps on
abbrev pub later : ℤ → List Step → ℤ → ℕ → List ℤ
later first steps reading count = filter (have_begun steps count) (all_moments (offset_after first steps count) (drop count steps) reading)

there : (steps : List Step) (count : ℕ) → count < length steps → nat_lt count (length steps) ≡ true
there steps count lt = grind (arith, nat_tests, lt)

before-next : (steps : List Step) (count : ℕ) (m : ℤ) → InOrder steps → count < length steps → int_le (step_at steps count).from m ≡ true → have_begun steps count m ≡ true
before-next steps zero m order lt h = refl
before-next steps (suc count) m order lt h = let o = next-order steps count order lt in grind (arith, ints, o, h)

one-part : (first : ℤ) (steps : List Step) (reading : ℤ) (count : ℕ) → count < length steps
    → filter (have_begun steps count) (filter (λ m. int_lt m (step_at steps count).from) ((reading -ℤ offset_after first steps count) ∷ [])) ≡ moment_between first steps reading count
one-part first steps reading count lt =
    let m : ℤ = reading -ℤ offset_after first steps count in
    let from : ℤ = (step_at steps count).from in
    elim (less-or-not m from) [
      | inl below ↦ rw (lt-true m from below, le-false from m below, and-false (nat_lt count (length steps)), and-true (have_begun steps count m)) refl
      | inr past ↦ rw (lt-false m from past, le-true from m past, there steps count lt, and-false (have_begun steps count m)) refl
    ]

pub next_part : (first : ℤ) (steps : List Step) (reading : ℤ) (count : ℕ) → InOrder steps → count < length steps
    → later first steps reading count ≡ moment_between first steps reading count ++ later first steps reading (suc count)
unfolding all_moments
next_part first steps reading count order lt =
    let from : ℤ = (step_at steps count).from in
    let more : List ℤ = all_moments (offset_after first steps (suc count)) (drop (suc count) steps) reading in
    rw (drop-cons steps count no_step lt) (
    filter-append (have_begun steps count) (filter (λ m. int_lt m from) ((reading -ℤ offset_after first steps count) ∷ [])) (filter (λ m. int_le from m) more)
    ∙ rw (one-part first steps reading count lt) (ap (λ ms. moment_between first steps reading count ++ ms) (filter-implied (have_begun steps count) (λ m. int_le from m) more (λ m h. before-next steps count m order lt h)))
    )

-- ---- the first and the last part in which a moment can lie

begun-part : (first : ℤ) (steps : List Step) (reading : ℤ) (count : ℕ) → count < length steps → IsOffset (offset_after first steps count) → (step_at steps count).from ≤ℤ (reading -ℤ pos 93_600) → moment_between first steps reading count ≡ []
begun-part first steps reading count lt is begun =
    let m : ℤ = reading -ℤ offset_after first steps count in
    let past : (step_at steps count).from ≤ℤ m = omega (arith, ints, is.1, begun) in
    rw (le-true (step_at steps count).from m past, there steps count lt, and-false (have_begun steps count m)) refl

pub all_later : (first : ℤ) (steps : List Step) (reading : ℤ) (count : ℕ) → InOrder steps → IsOffset first → AreOffsets steps → count ≤ length steps → AllBegun steps count (reading -ℤ pos 93_600) → all_moments first steps reading ≡ later first steps reading count
all_later first steps reading zero order one all within begun = sym (filter-kept (have_begun steps zero) _ (λ m. refl))
all_later first steps reading (suc count) order one all within begun =
    all_later first steps reading count order one all (omega arith) (λ i lt. begun i (omega arith))
    ∙ next_part first steps reading count order (omega arith)
    ∙ ap (λ ms. ms ++ later first steps reading (suc count)) (begun-part first steps reading count (omega arith) (offset_after-in first steps count (omega arith) one all) (begun count (omega arith)))

none-from : (offset : ℤ) (steps : List Step) (reading from : ℤ) → IsOffset offset → AreOffsets steps → (reading +ℤ pos 93_600) <ℤ from → filter (λ m. int_le from m) (all_moments offset steps reading) ≡ []
unfolding all_moments
none-from offset [] reading from is all past = rw (le-false from (reading -ℤ offset) (omega (arith, ints, is.0, past))) refl
none-from offset (s ∷ ss) reading from is all past =
    let p = λ (m : ℤ). int_le from m in
    let one : List ℤ = (reading -ℤ offset) ∷ [] in
    let none : filter p one ≡ [] = rw (le-false from (reading -ℤ offset) (omega (arith, ints, is.0, past))) refl in
    let rest = none-from s.offset ss reading from (all 0 (omega arith)) (λ i lt. all (suc i) (omega arith)) past in
    filter-append p (filter (λ m. int_lt m s.from) one) (filter (λ m. int_le s.from m) (all_moments s.offset ss reading))
    ∙ rw (filter-none p (λ m. int_lt m s.from) one none, filter-none p (λ m. int_le s.from m) (all_moments s.offset ss reading) rest) refl

offsets-left : (steps : List Step) (count : ℕ) → AreOffsets steps → AreOffsets (drop count steps)
offsets-left steps count all i lt =
    let at : step_at (drop count steps) i ≡ step_at steps (count + i) = get_or-drop count steps i no_step in
    rw at (all (count + i) (omega (arith, lt, length-drop count steps)))

pub last_part : (first : ℤ) (steps : List Step) (reading : ℤ) (count : ℕ) → InOrder steps → IsOffset first → AreOffsets steps → count ≤ length steps → (count < length steps → (reading +ℤ pos 93_600) <ℤ (step_at steps count).from)
    → later first steps reading count ≡ moment_between first steps reading count
unfolding all_moments
last_part first steps reading count order one all within past = elim (cases_lt count (length steps)) [
  | inl lt ↦ next_part first steps reading count order lt
      ∙ ap (λ ms. moment_between first steps reading count ++ ms) (none-from (offset_after first steps (suc count)) (drop (suc count) steps) reading (step_at steps count).from (offset_after-in first steps (suc count) (omega arith) one all) (offsets-left steps (suc count) all) (past lt))
      ∙ append-nil _
  | inr end ↦
      let none : nat_lt count (length steps) ≡ false = grind (arith, nat_tests, end) in
      rw (drop_all count steps end, none, and-true (have_begun steps count (reading -ℤ offset_after first steps count))) refl
]

-- ---- the answer

pub with_more : (found : Moments) (ms ns : List ℤ) → with_moments found (ms ++ ns) ≡ with_moments (with_moments found ms) ns
with_more found [] ns = refl
with_more found (m ∷ ms) ns = with_more (with_moment found m) ms ns

-- all moments that can show a reading lie after so many steps, and before the next
pub record IsSure (steps : List Step) (count : ℕ) (reading : ℤ) : Type 0 where
  pub begun : AllBegun steps count (reading -ℤ pos 93_600)
  pub next : count < length steps → (reading +ℤ pos 93_600) <ℤ (step_at steps count).from

sure-begun : (steps : List Step) (reading : ℤ) (count : ℕ) (m : ℤ) → (reading -ℤ pos 93_600) ≤ℤ m → IsSure steps count reading → have_begun steps count m ≡ true
sure-begun steps reading zero m le sure = refl
sure-begun steps reading (suc count) m le sure = let begun = sure.begun count (omega arith) in le-true (step_at steps count).from m (omega (arith, ints, begun, le))

sure-between : (first : ℤ) (steps : List Step) (reading : ℤ) (count : ℕ) → IsOffset (offset_after first steps count) → IsSure steps count reading
    → moment_between first steps reading count ≡ (reading -ℤ offset_after first steps count) ∷ []
sure-between first steps reading count is sure =
    let m : ℤ = reading -ℤ offset_after first steps count in
    let begun : have_begun steps count m ≡ true = sure-begun steps reading count m (omega (arith, ints, is.1)) sure in
    let next : has_next_begun steps count m ≡ false = elim (cases_lt count (length steps)) [
      | inl lt ↦ let past = sure.next lt in rw (le-false (step_at steps count).from m (omega (arith, ints, is.0, past))) (and-false _)
      | inr end ↦ let none : nat_lt count (length steps) ≡ false = grind (arith, nat_tests, end) in rw none refl
    ] in
    rw (begun, next) refl

-- what is surely in a part is the answer; the offset may have gone through a call
pub sure_moment : (first : ℤ) (steps : List Step) (count : ℕ) (reading given offset : ℤ) → given ≡ offset → offset ≡ offset_after first steps count → InOrder steps
    → IsOffset first → AreOffsets steps → count ≤ length steps → IsSure steps count reading → moments_of first steps reading ≡ One (reading -ℤ given)
unfolding moments_of
sure_moment first steps count reading given offset same is order one all within sure =
    let listed = all_later first steps reading count order one all within sure.begun
    ∙ last_part first steps reading count order one all within sure.next
    ∙ sure-between first steps reading count (offset_after-in first steps count within one all) sure in
    rw (listed, same, is) refl

true-false : {b : Bool} → b ≡ true → b ≡ false → ⊥
true-false e f = cc

pub next_there : (steps : List Step) (count : ℕ) (t : ℤ) (b : Bool) → b ≡ has_next_begun steps count t → b ≡ true → count < length steps
next_there steps count t b is holds = let h = sym is ∙ holds in elim (cases_lt count (length steps)) [
  | inl lt ↦ lt
  | inr end ↦ let none : has_next_begun steps count t ≡ false = let no : nat_lt count (length steps) ≡ false = grind (arith, nat_tests, end) in rw no refl in absurd (true-false h none)
]

is-past : (steps : List Step) (count : ℕ) (reading latest : ℤ) → latest ≡ reading +ℤ pos 93_600 → has_next_begun steps count latest ≡ false → count < length steps → (reading +ℤ pos 93_600) <ℤ (step_at steps count).from
is-past steps count reading latest e none lt = elim (less-or-not (reading +ℤ pos 93_600) (step_at steps count).from) [
  | inl past ↦ past
  | inr le ↦
      let begun : has_next_begun steps count latest ≡ true = rw (e, there steps count lt, le-true (step_at steps count).from (reading +ℤ pos 93_600) le) refl in
      absurd (true-false begun none)
]

-- steps that have begun well before the first of readings, and none up to well after the last
pub sure_through : (steps : List Step) (count : ℕ) (first last reading before after : ℤ) (b : Bool) → before ≡ first -ℤ pos 93_600 → after ≡ last +ℤ pos 93_600 → first ≤ℤ reading → reading ≤ℤ last
    → AllBegun steps count before → b ≡ has_next_begun steps count after → b ≡ false → IsSure steps count reading
sure_through steps count first last reading before after b one other from to begun next fails = record {
  begun = λ i lt. let at = begun i lt in omega (arith, ints, at, one, from);
  next = λ lt. let past = is-past steps count last after other (sym next ∙ fails) lt in omega (arith, ints, past, to);
}

-- ---- the search, part after part; numbers may have gone through a call

pub found_first : (first : ℤ) (steps : List Step) (reading earliest : ℤ) (count : ℕ) → InOrder steps → IsOffset first → AreOffsets steps → count ≤ length steps → earliest ≡ reading -ℤ pos 93_600 → AllBegun steps count earliest
    → with_moments Skipped (later first steps reading count) ≡ moments_of first steps reading
unfolding moments_of
found_first first steps reading earliest count order one all within e begun =
    ap (with_moments Skipped) (sym (all_later first steps reading count order one all within (subst (AllBegun steps count) e begun)))

pub found_next : (first : ℤ) (steps : List Step) (reading passed : ℤ) (count : ℕ) (found result : Moments) → passed ≡ reading → InOrder steps → count < length steps → result ≡ with_moments found (moment_between first steps passed count)
    → with_moments found (later first steps reading count) ≡ moments_of first steps reading → with_moments result (later first steps reading (count + 1)) ≡ moments_of first steps reading
found_next first steps reading passed count found result p order lt is so_far =
    let taken : result ≡ with_moments found (moment_between first steps reading count) = subst (λ r. result ≡ with_moments found (moment_between first steps r count)) p is in
    let next : count + 1 ≡ suc count = omega arith in
    rw (next, taken) (sym (with_more found (moment_between first steps reading count) (later first steps reading (suc count))) ∙ ap (with_moments found) (sym (next_part first steps reading count order lt)) ∙ so_far)

pub found_last : (first : ℤ) (steps : List Step) (reading kept passed latest : ℤ) (count : ℕ) (found result : Moments) (b : Bool) → kept ≡ reading → passed ≡ reading → latest ≡ reading +ℤ pos 93_600 → InOrder steps → IsOffset first → AreOffsets steps → count ≤ length steps
    → b ≡ has_next_begun steps count latest → b ≡ false → result ≡ with_moments found (moment_between first steps passed count)
    → with_moments found (later first steps kept count) ≡ moments_of first steps kept → result ≡ moments_of first steps reading
found_last first steps reading kept passed latest count found result b k p l order one all within next fails is so_far =
    let past = λ (lt : count < length steps). (is-past steps count reading latest l (sym next ∙ fails) lt) in
    subst (λ r. result ≡ with_moments found (moment_between first steps r count)) p is
    ∙ ap (with_moments found) (sym (last_part first steps reading count order one all within past))
    ∙ subst (λ r. with_moments found (later first steps r count) ≡ moments_of first steps r) k so_far
