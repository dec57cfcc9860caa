-- The bytes reserved are those of the longest layout.
use Rattle.std.proofs.Common.{◌≡◌, ℕ, zero, suc, ◌<◌, ◌≤◌, ◌⊎◌, inl, inr, max, true, false, refl, sym, subst, arith}
use Rattle.description_items.specs.Tree.{Tree, Literal, Part, Compound, Optional, First, Trees, none, also}
use Rattle.description_tree.specs.Reserved.{Takes, TakeInTurn, OneTakes, IsLongest, reserved, reserved_in_turn, greatest_reserved}

which : (a b : ℕ) → (max a b ≡ a) ⊎ ((max a b ≡ b) × (a < b))
which zero zero = inl (omega arith)
which zero (suc b) = inr (omega arith, omega arith)
which (suc a) zero = inl (omega arith)
which (suc a) (suc b) = elim (which a b) [
  | inl e ↦ inl (omega (arith, e))
  | inr e ↦ inr (omega (arith, e.0), omega (arith, e.1))
]

mutual
  reached : (t : Tree) → Takes t (reserved t)
  reached (Literal s) = refl
  reached (Part c) = omega arith
  reached (Compound ts) = reached_in_turn ts
  reached (Optional true t) = reached t
  reached (Optional false t) = refl
  reached (First none) = refl
  reached (First (also t ts)) = elim (which (reserved t) (greatest_reserved ts)) [
    | inl e ↦ inl (subst (Takes t) (sym e) (reached t))
    | inr e ↦ inr (subst (OneTakes ts) (sym e.0) (elim (reached_by_one ts) [ inl h ↦ absurd (omega (arith, e.1, h)) | inr h ↦ h ]))
  ]

  reached_in_turn : (ts : Trees) → TakeInTurn ts (reserved_in_turn ts)
  reached_in_turn none = refl
  reached_in_turn (also t ts) = (reserved t, reserved_in_turn ts, reached t, reached_in_turn ts, refl)

  reached_by_one : (ts : Trees) → (greatest_reserved ts ≡ 0) ⊎ OneTakes ts (greatest_reserved ts)
  reached_by_one none = inl refl
  reached_by_one (also t ts) = inr (elim (which (reserved t) (greatest_reserved ts)) [
    | inl e ↦ inl (subst (Takes t) (sym e) (reached t))
    | inr e ↦ inr (subst (OneTakes ts) (sym e.0) (elim (reached_by_one ts) [ inl h ↦ absurd (omega (arith, e.1, h)) | inr h ↦ h ]))
  ])

mutual
  not_passed : (t : Tree) (m : ℕ) → Takes t m → m ≤ reserved t
  not_passed (Literal s) m h = omega (arith, h)
  not_passed (Part c) m h = h
  not_passed (Compound ts) m h = not_passed_in_turn ts m h
  not_passed (Optional true t) m h = not_passed t m h
  not_passed (Optional false t) m h = omega (arith, h)
  not_passed (First none) m h = omega (arith, h)
  not_passed (First (also t ts)) m (inl h) = omega (arith, not_passed t m h)
  not_passed (First (also t ts)) m (inr h) = omega (arith, not_passed_by_one ts m h)

  not_passed_in_turn : (ts : Trees) (m : ℕ) → TakeInTurn ts m → m ≤ reserved_in_turn ts
  not_passed_in_turn none m h = omega (arith, h)
  not_passed_in_turn (also t ts) m (i, j, h, k, e) = omega (arith, e, not_passed t i h, not_passed_in_turn ts j k)

  not_passed_by_one : (ts : Trees) (m : ℕ) → OneTakes ts m → m ≤ greatest_reserved ts
  not_passed_by_one none m h = absurd h
  not_passed_by_one (also t ts) m (inl h) = omega (arith, not_passed t m h)
  not_passed_by_one (also t ts) m (inr h) = omega (arith, not_passed_by_one ts m h)

pub reserved_is_longest : (t : Tree) → IsLongest t (reserved t)
reserved_is_longest t = (reached t, λ m h. not_passed t m h)
