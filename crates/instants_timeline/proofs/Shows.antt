-- What an answered line shows: a moment at the target, of the instant that the source names.
use Rattle.std.proofs.Common.{◌≡◌, ℕ, List, Option, None, Some, Result, Ok, Err, Bool, true, false, refl, ap, ℤ}
use Rattle.std.specs.Prelude.{if◌then◌else◌, IsOk}
use Rattle.datetime_wall.specs.Wall.{Shown, instant, shown_at}
use Rattle.parsing_combinator.specs.Fault.{Fault}
use Rattle.instants_answers.specs.Text.{moment_text, has_written_year}
use Rattle.instants_answers.specs.Written.{IsWritten}
use Rattle.instants_answers.proofs.Placed.{shown_at-is}
use Rattle.instants_faults.specs.Refusal.{Refusal, year}
use Rattle.instants_timeline.specs.Place.{Setting, in_written_years, first_named, shown_or_refused, place_of, place_text}

-- a moment at the target, of this instant, whose line is the text
pub record Shows (target i : ℤ) (text : List ℕ) (a : Shown) : Type 0 where
  pub line : text ≡ moment_text a
  pub written : IsWritten a
  pub offset : a.offset ≡ target
  pub same : instant a ≡ i

in_year : (b : Bool) (a : Shown) (r : Result Shown Refusal) → r ≡ (if b then Ok a else Err year) → IsOk r → (b ≡ true) × (r ≡ Ok a)
in_year true a r e h = (refl, e)
in_year false a r e h = let never : false ≡ true = rw e at h in absurd cc

pub shown_in : (target i : ℤ) (o : Option Shown) → shown_at target i ≡ o → IsOk (in_written_years o) → (a : Shown) × Shows target i (place_text (in_written_years o)) a
shown_in target i None e h = let never : false ≡ true = h in absurd cc
shown_in target i (Some a) e h =
    let is = in_year (has_written_year a) a (in_written_years (Some a)) refl h in
    let shown = shown_at-is target i a e in
    (a, record { line = ap (λ r. place_text r) is.1; written = (shown.within, is.0); offset = shown.offset; same = shown.same })

-- ---- a place is shown at the target

kept : (b : Bool) (m a : Shown) (e : Refusal) → (if b then Ok m else Err e) ≡ Ok a → m ≡ a
kept true m a e h = cc
kept false m a e h = absurd cc

placed_in : (target i : ℤ) (o : Option Shown) (a : Shown) → shown_at target i ≡ o → in_written_years o ≡ Ok a → a.offset ≡ target
placed_in target i None a e h = absurd cc
placed_in target i (Some m) a e h =
    let same = kept (has_written_year m) m a year h in
    (shown_at-is target i a (rw same at e)).offset

placed_as : (target : ℤ) (r : Result Shown Fault) (a : Shown) → shown_or_refused target r ≡ Ok a → a.offset ≡ target
placed_as target (Ok m) a h = placed_in target (instant m) (shown_at target (instant m)) a refl h
placed_as target (Err f) a h = absurd cc

pub shown_at_target : (setting : Setting) (line : List ℕ) (a : Shown) → place_of setting line ≡ Ok a → a.offset ≡ setting.target
unfolding place_of
shown_at_target setting line a h = placed_as setting.target (first_named setting.assumed setting.sources line) a h
