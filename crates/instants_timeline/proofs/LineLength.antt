-- The text of an answer, by the line that holds it.
use Rattle.std.proofs.Common.{◌≡◌, ◌≢◌, ◌≤◌, ◌+◌, ◌-◌, ℕ, ℤ, Bool, true, false, List, [], ◌∷◌, take, length, get_or, codes, Option, None, Some, Result, Ok, Err, ap, sym, ◌∙◌, arith, take-take, length-append}
use Rattle.std.specs.Prelude.{if◌then◌else◌, unsigned_abs}
use Rattle.std.proofs.lemmas.List.{length-take-le, take_at}
use Rattle.base.specs.Bytes.{line_feed}
use Rattle.calendar_count.specs.Calendar.{YearMonthDay, day_at}
use Rattle.datetime_wall.specs.Wall.{Shown, day_of, instant, shown_at}
use Rattle.parsing_combinator.specs.Fault.{Fault}
use Rattle.parsing_combinator.specs.Fault as fault
use Rattle.parsing_values.proofs.lemmas.Decimals.{decimal_length}
use Rattle.instants_answers.specs.Line.{HoldsLine}
use Rattle.instants_answers.specs.Text.{date_text, moment_text, has_written_year}
use Rattle.instants_timeline.specs.Place.{Setting, first_named, place_of, place_text, shown_or_refused, in_written_years, answer_to}
use Rattle.instants_faults.specs.Refusal.{refusal_of, refusal_text, year}

-- all but the line feed is the text
pub text_of_line : (text room : List ℕ) (len : ℕ) → 64 ≤ length room → HoldsLine text len room → (take (len - 1) room ≡ text) × (length text + 1 ≡ len)
text_of_line text room len long held =
    let within : len ≤ length room = omega (arith, held.most) in
    let size : length text + 1 ≡ len = sym (length-append text (line_feed ∷ [])) ∙ ap length (sym held.bytes) ∙ length-take-le len room within in
    let less : len - 1 ≡ length text = omega arith in
    (sym (take-take (len - 1) len room (omega arith)) ∙ ap (take (len - 1)) held.bytes ∙ take_at text (line_feed ∷ []) (len - 1) (sym less), size)

date_length : (d : YearMonthDay) → 10 ≤ length (date_text d)
unfolding date_text
date_length d = simp length-append (omega (arith, decimal_length 4 (unsigned_abs d.year), decimal_length 2 d.month, decimal_length 2 d.day))

moment_length : (m : Shown) → 10 ≤ length (moment_text m)
unfolding moment_text
moment_length m = simp length-append (omega (arith, date_length (day_at (day_of m.wall))))

no_moment : (m : Shown) → moment_text m ≢ codes "! long"
no_moment m e = absurd (omega (arith, moment_length m, ap length e))

no_fault : (f : Fault) → refusal_text (refusal_of f) ≢ codes "! long"
no_fault fault.literal e = absurd cc
no_fault (fault.component name) e = absurd cc
no_fault fault.trailing e = absurd cc
no_fault fault.insufficient e = absurd cc
no_fault (fault.range refused) e = absurd cc

no_year : refusal_text year ≢ codes "! long"
no_year e = absurd (let letters : 121 ≡ 108 = ap (λ (l : List ℕ). get_or l 2 0) e in omega arith)

by_year : (written : Bool) (m : Shown) → place_text (if written then Ok m else Err year) ≢ codes "! long"
by_year true m e = no_moment m e
by_year false m e = no_year e

no_shown : (shown : Option Shown) → place_text (in_written_years shown) ≢ codes "! long"
no_shown None e = no_year e
no_shown (Some m) e = by_year (has_written_year m) m e

no_place : (target : ℤ) (r : Result Shown Fault) → place_text (shown_or_refused target r) ≢ codes "! long"
no_place target (Ok m) e = no_shown (shown_at target (instant m)) e
no_place target (Err f) e = no_fault f e

-- no line is answered as one that is too long
pub never_long : (setting : Setting) (line : List ℕ) → answer_to setting line ≢ codes "! long"
unfolding answer_to place_of
never_long setting line e = no_place setting.target (first_named setting.assumed setting.sources line) e
