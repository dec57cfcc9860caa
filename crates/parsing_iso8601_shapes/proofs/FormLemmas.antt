-- The rows of the table of forms: each fact is computed for each row.
use Rattle.std.proofs.Common.{◌≡◌, ◌≤◌, ◌<◌, ◌+◌, ℕ, suc, Bool, true, false, [], get_or, refl, arith}
use Rattle.std.specs.Prelude.{◌==◌, ◌||◌, nat_le, nat_lt}
use Rattle.std.proofs.lemmas.Bool.{agree_below, agree_below_at}
use Rattle.std.proofs.lemmas.Bool.Decides.{nat_tests}
use Rattle.parsing_places.specs.Lanes.{are_moves}
use Rattle.parsing_places.specs.declared.windows.Windows.{Windows}
use Rattle.parsing_shapes.specs.Shape.{fits}
use Rattle.parsing_places.specs.Windows.{lets_year, are_bounded}
use Rattle.parsing_shapes.specs.declared.shape.Shape.{Shape}
use Rattle.parsing_iso8601_shapes.specs.Layout.{front_parts, row_of}
use Rattle.parsing_iso8601_shapes.specs.declared.form.Dating.TheVariants.{Calendar}
use Rattle.parsing_iso8601_shapes.specs.declared.forms.Row.{Row}
use Rattle.parsing_iso8601_shapes.specs.declared.forms.TheConstants.{TABLE}

abbrev none : Row
none = record { low = []; above = []; lanes = []; back = record { low = []; above = []; lanes = []; at = 0 }; length = 0; dating = Calendar; is_extended = false }

abbrev pub row : ℕ → Row
row at = get_or TABLE at none

passes : (test : Row → Bool) (at : ℕ) → agree_below (λ k. test (row k)) (λ _. true) 12 ≡ true → at < 12 → test (row at) ≡ true
passes test at all lt = agree_below_at (λ k. test (row k)) (λ _. true) 12 at all lt

pub front_moves : (at : ℕ) → at < 12 → are_moves (row at).lanes ≡ true
front_moves at lt = passes (λ r. are_moves r.lanes) at refl lt

pub back_moves : (at : ℕ) → at < 12 → are_moves (row at).back.lanes ≡ true
back_moves at lt = passes (λ r. are_moves r.back.lanes) at refl lt

far : (a b : ℕ) → ((a == 0) || nat_le (a + 16) b) ≡ true → 0 < a → a + 16 ≤ b
far a b e some = grind (arith, nat_tests)

pub within : (at : ℕ) → at < 12 → 0 < (row at).back.at → (row at).back.at + 16 ≤ (row at).length
within at lt = far _ _ (passes (λ r. (r.back.at == 0) || nat_le (r.back.at + 16) r.length) at refl lt)

-- the windows of a row
abbrev pub windows_of : (r : Row) → are_moves r.lanes ≡ true → are_moves r.back.lanes ≡ true → Windows
windows_of r p q = record { prefix = record { low = r.low; high = r.above; taken = record { lanes = r.lanes; right = p } }; back = record { low = r.back.low; high = r.back.above; taken = record { lanes = r.back.lanes; right = q } }; back_at = r.back.at }

-- the shape of a row was made for its layout
abbrev pub shape_of : (r : Row) (p : are_moves r.lanes ≡ true) (q : are_moves r.back.lanes ≡ true) → (0 < r.back.at → r.back.at + 16 ≤ r.length) → lets_year (windows_of r p q) r.length 0 ≡ true → are_bounded (windows_of r p q) true ≡ true → Shape
shape_of r p q near year bounded = record { windows = windows_of r p q; length = r.length; has_tail = true; year = 0; within = near; year_is = year; bounded = bounded }

-- what is so of each row
abbrev Right : ℕ → Type 0
Right at = (p : are_moves (row at).lanes ≡ true) (q : are_moves (row at).back.lanes ≡ true) → (lets_year (windows_of (row at) p q) (row at).length 0 ≡ true) × (are_bounded (windows_of (row at) p q) true ≡ true)
    × ((a : 0 < (row at).back.at → (row at).back.at + 16 ≤ (row at).length) (b : lets_year (windows_of (row at) p q) (row at).length 0 ≡ true) (d : are_bounded (windows_of (row at) p q) true ≡ true) → fits (shape_of (row at) p q a b d) (front_parts (row at).dating (row at).is_extended (nat_lt at 6)) ≡ true)

pub right : (at : ℕ) → at < 12 → Right at
right (suc (suc (suc (suc (suc (suc (suc (suc (suc (suc (suc (suc n)))))))))))) lt = absurd (omega (arith, lt))
right at lt = λ p q. (refl, refl, λ a b d. refl)

second_of : (form at : ℕ) (s : Bool) → form < 6 → at ≡ row_of form s → nat_lt at 6 ≡ s
second_of form at s lt is = grind (arith, nat_tests)

pub row_fits : (form at : ℕ) (s : Bool) → form < 6 → at ≡ row_of form s → at < 12 → (p : are_moves (row at).lanes ≡ true) (q : are_moves (row at).back.lanes ≡ true) (a : 0 < (row at).back.at → (row at).back.at + 16 ≤ (row at).length) (b : lets_year (windows_of (row at) p q) (row at).length 0 ≡ true) (d : are_bounded (windows_of (row at) p q) true ≡ true)
    → fits (shape_of (row at) p q a b d) (front_parts (row at).dating (row at).is_extended s) ≡ true
row_fits form at s small is lt p q a b d = rw (second_of form at s small is) at ((right at lt p q).2 a b d)
