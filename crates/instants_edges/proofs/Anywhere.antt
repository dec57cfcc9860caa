-- Whether something holds at one of some places, place by place.
use Rattle.std.proofs.Common.{◌≡◌, ℕ, suc, ◌+◌, ◌-◌, ◌<◌, ◌≤◌, Bool, false, ◌||◌, refl, arith}
use Rattle.std.specs.List.{range_with_len}
use Rattle.std.proofs.lemmas.List.Folds.{list_any_none}
use Rattle.instants_edges.specs.Beside.{is_any}

pub any_more : (is : ℕ → Bool) (place to : ℕ) → place < to → is_any is place to ≡ (is place || is_any is (place + 1) to)
any_more is place to lt = let many : to - place ≡ suc (to - (place + 1)) = omega (arith, lt) in rw many refl

pub any_none : (is : ℕ → Bool) (place to : ℕ) → to ≤ place → is_any is place to ≡ false
any_none is place to le = let none : to - place ≡ 0 = omega (arith, le) in rw none refl

pub any_never : (is : ℕ → Bool) (from to : ℕ) → ((place : ℕ) → is place ≡ false) → is_any is from to ≡ false
any_never is from to never = list_any_none is (range_with_len from (to - from)) (λ k d lt. never _)
