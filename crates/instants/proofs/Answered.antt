-- What an answered line shows: a moment at the target, of the instant that the source names.
use Rattle.std.proofs.Common.{◌≡◌, ℕ, List, Option, None, Some, Result, Ok, Err, Bool, true, false, refl, sym, ap, ◌∙◌, ℤ}
use Rattle.std.specs.Prelude.{if◌then◌else◌, ◌↔◌, IsOk}
use Rattle.std.specs.Ordering.{int_cmp}
use Rattle.datetime_wall.specs.Wall.{Shown, instant, shown_at}
use Rattle.instants_answers.specs.Text.{moment_text, has_written_year}
use Rattle.instants_answers.specs.Written.{IsWritten}
use Rattle.instants_answers.proofs.Compares.{Compares, same_when, int_cmp-equal}
use Rattle.instants_answers.proofs.Lines.{line_field}
use Rattle.instants.specs.Answered.{IsAnswered}
use Rattle.instants_faults.specs.Refusal.{Refusal, year}
use Rattle.instants_timeline.specs.Place.{Setting, in_written_years, place_of, answer_to}
use Rattle.instants_timeline.proofs.Shows.{Shows, shown_in}

pub answered_shows : (setting : Setting) (line : List ℕ) (m : Shown) → IsAnswered setting line m → (a : Shown) × Shows setting.target (instant m) (answer_to setting line) a
unfolding answer_to place_of
answered_shows setting line m h =
    let placed : IsOk (in_written_years (shown_at setting.target (instant m))) = rw h.first at h.placed in
    rw h.first (shown_in setting.target (instant m) (shown_at setting.target (instant m)) refl placed)

-- at one target the answers compare as the instants
pub embedded : (one other : Setting) (x y : List ℕ) (m n : Shown) → one.target ≡ other.target → IsAnswered one x m → IsAnswered other y n
    → Compares (answer_to one x) (answer_to other y) (int_cmp (instant m) (instant n))
embedded one other x y m n e h g =
    let first = answered_shows one x m h in
    let second = answered_shows other y n g in
    let lines = line_field first.0 second.0 first.1.written second.1.written (first.1.offset ∙ e ∙ sym second.1.offset) in
    let instants : int_cmp (instant first.0) (instant second.0) ≡ int_cmp (instant m) (instant n) =
    ap (λ i. int_cmp i (instant second.0)) first.1.same ∙ ap (λ i. int_cmp (instant m) i) second.1.same in
    rw (first.1.line, second.1.line) (rw instants at lines)

pub equal_when : (one other : Setting) (x y : List ℕ) (m n : Shown) → one.target ≡ other.target → IsAnswered one x m → IsAnswered other y n
    → (answer_to one x ≡ answer_to other y) ↔ (instant m ≡ instant n)
equal_when one other x y m n e h g =
    let lines = same_when _ _ _ (embedded one other x y m n e h g) in
    let instants = int_cmp-equal (instant m) (instant n) in
    (λ same. instants.0 (lines.1 same), λ same. lines.0 (instants.1 same))
