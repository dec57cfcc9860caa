-- A test that holds wherever another one does.
use Rattle.std.proofs.Common.{◌≡◌, ◌&&◌, ◌||◌, Bool, true, false, inl, inr}
use Rattle.std.specs.Prelude.{not}
use Rattle.std.proofs.lemmas.Bool.{and_parts, and_from, or_cases, or_left, or_right, not-true, not_from_false, false_from_ne_true, both_ways}

pub record Le (a b : Bool) : Type 0 where
  pub up : a ≡ true → b ≡ true

pub none_le : {a : Bool} → Le false a
none_le = record { up = λ e. absurd cc }

pub le_refl : {a : Bool} → Le a a
le_refl = record { up = λ e. e }

pub le_trans : {a b c : Bool} → Le a b → Le b c → Le a c
le_trans h k = record { up = λ e. k.up (h.up e) }

pub left_le : (a b : Bool) → Le a (a || b)
left_le a b = record { up = or_left _ _ }

pub right_le : (a b : Bool) → Le b (a || b)
right_le a b = record { up = or_right _ _ }

pub or_le : {a b c d : Bool} → Le a c → Le b d → Le (a || b) (c || d)
or_le h k = record { up = λ e. elim (or_cases _ _ e) [ inl x ↦ or_left _ _ (h.up x) | inr y ↦ or_right _ _ (k.up y) ] }

pub and_le : {a b c d : Bool} → Le a c → Le b d → Le (a && b) (c && d)
and_le h k = record { up = λ e. let both = and_parts _ _ e in and_from _ _ (h.up both.0) (k.up both.1) }

pub not_le : {a b : Bool} → Le a b → Le (not b) (not a)
not_le h = record { up = λ e. not_from_false _ (false_from_ne_true _ (λ t. both_ways _ (not-true _ e) (h.up t))) }

pub le_false : {a b : Bool} → Le a b → b ≡ false → a ≡ false
le_false h e = false_from_ne_true _ (λ t. both_ways _ e (h.up t))
