-- The transitions of a table, and the first fault among them.
use Rattle.std.proofs.Common.{◌≡◌, ℕ, suc, ◌+◌, ◌-◌, ◌<◌, ℤ, ◌<ℤ◌, int_lt, refl, ap, ◌∙◌, sym, subst, inr, arith, IsTrue, ◌||◌, ◌==◌, List, [], ◌∷◌, ◌++◌, length, Option, Some, None, Result, Err}
use Rattle.std.proofs.lemmas.Int.{ints}
use Rattle.std.specs.Option.{option_or}
use Rattle.std.proofs.lemmas.List.FromFn.{get_or-map-range_with_len, length-map-range_with_len, map-range_with_len_more}
use Rattle.zones_clock.specs.declared.zone.Step.{Step}
use Rattle.zones_clock.specs.Steps.{ComesAfter, no_step, step_at}
use Rattle.zones_file.specs.declared.fault.ZoneFault.{ZoneFault}
use Rattle.zones_file.specs.declared.layout.Layout.{Layout}
use Rattle.zones_file.specs.Table.{step_in, steps_in, time_in}
use Rattle.zones_file.specs.Faults.{Tells, is_after, type_fault, step_fault, steps_fault, table_fault}

pub tells_fault : {A : Type 0} (result : Result A ZoneFault) (told : ZoneFault) (fault : Option ZoneFault) → result ≡ Err told → fault ≡ Some told → Tells result fault
tells_fault result told fault r f = subst (λ x. Tells x fault) (sym r) (inr f)

pub first_faulted : (bytes : List ℕ) (layout : Layout) (told : ZoneFault) → type_fault bytes layout 0 ≡ Some told → table_fault bytes layout ≡ Some told
unfolding table_fault
first_faulted bytes layout told f = rw f refl

pub first_passed : (bytes : List ℕ) (layout : Layout) → type_fault bytes layout 0 ≡ None → table_fault bytes layout ≡ steps_fault bytes layout 0 (layout.step_count - 0)
unfolding table_fault
first_passed bytes layout f = let e : layout.step_count - 0 ≡ layout.step_count = omega arith in rw (f, e) refl

-- the next transition has a fault, or those after it
pub next_fault : (bytes : List ℕ) (layout : Layout) (index : ℕ) → index < layout.step_count
    → steps_fault bytes layout index (layout.step_count - index) ≡ option_or (step_fault bytes layout index) (steps_fault bytes layout (index + 1) (layout.step_count - (index + 1)))
next_fault bytes layout index lt = let e : layout.step_count - index ≡ suc (layout.step_count - (index + 1)) = omega arith in rw e refl

pub steps_next : (bytes : List ℕ) (layout : Layout) (n : ℕ) → steps_in bytes layout (n + 1) ≡ steps_in bytes layout n ++ step_in bytes layout n ∷ []
unfolding steps_in
steps_next bytes layout n = map-range_with_len_more (step_in bytes layout) 0 n n (omega arith)

before-of : (n : ℕ) (a b : ℤ) → IsTrue ((n == 0) || int_lt a b) → 0 < n → a <ℤ b
before-of n a b h some = grind (arith, ints)

-- a transition that comes after the one before it comes after all before it
pub comes_after : (bytes : List ℕ) (layout : Layout) (n : ℕ) (steps : List Step) (from : ℤ) → steps ≡ steps_in bytes layout n → from ≡ time_in bytes layout n → IsTrue (is_after bytes layout n) → ComesAfter steps from
unfolding steps_in
comes_after bytes layout n steps from s f after i e =
    let l : length steps ≡ n = ap length s ∙ length-map-range_with_len (step_in bytes layout) 0 n in
    let last : step_at steps i ≡ step_in bytes layout i = ap (λ x. step_at x i) s ∙ get_or-map-range_with_len (step_in bytes layout) 0 n i i no_step (omega arith) (omega arith) in
    let less : time_in bytes layout (n - 1) <ℤ time_in bytes layout n = before-of n _ _ after (omega arith) in
    let before : n - 1 ≡ i = omega arith in
    rw (last, f) (rw before at less)
