-- The answer to a line is the text of its entry.
use Rattle.std.proofs.Common.{◌≡◌, ◌==◌, ℕ, suc, Bool, true, false, cond, Result, Ok, Err, List, [], ◌∷◌, ◌++◌, map, length, ℤ, refl, sym, ap, ◌∙◌, arith}
use Rattle.std.specs.Prelude.{nat_lt}
use Rattle.std.specs.List.{All, flat_map}
use Rattle.std.proofs.lemmas.Bool.Decides.{nat_tests}
use Rattle.calendar_count.proofs.lemmas.Signed.{signed}
use Rattle.datetime_wall.specs.Wall.{Shown, instant, wall_at}
use Rattle.instants_answers.specs.Text.{moment_text}
use Rattle.instants_stream.specs.Answers.{answer_or_long, answered, output}
use Rattle.instants_stream.specs.Lines.{lines}
use Rattle.instants_timeline.specs.Place.{Setting, answer_to, place_of, place_text}
use Rattle.instants_faults.specs.Refusal.{Refusal, literal, component, trailing, insufficient, range, year, long, refusal_text}
use Rattle.instants_timeline.proofs.Shows.{shown_at_target}
use Rattle.instants_memory.specs.Numbers.{entry_of, fault_number, numbers_of}
use Rattle.instants_memory.specs.Printed.{HasNumber, entry_line, entry_text, fault_text}
use Rattle.instants_memory.proofs.FaultTexts.{component_is, range_is}
use Rattle.instants_memory.proofs.Unix.{both_parts}

-- a fault's text is that of its number
fault_is : (refusal : Refusal) → HasNumber (Err refusal) → refusal_text refusal ≡ fault_text (fault_number refusal)
unfolding fault_number fault_text
fault_is literal h = refl
fault_is (component name) h = sym (component_is name h)
fault_is trailing h = refl
fault_is insufficient h = refl
fault_is (range name) h = sym (range_is name h)
fault_is year h = refl
fault_is long h = refl

-- no fault has the number 0
some_number : (refusal : Refusal) → (fault_number refusal == 0) ≡ false
unfolding fault_number
some_number literal = refl
some_number (component name) = grind (arith, nat_tests)
some_number trailing = refl
some_number insufficient = refl
some_number (range name) = grind (arith, nat_tests)
some_number year = refl
some_number long = refl

-- a moment comes back from its instant, where it is shown at the target
moment_is : (target : ℤ) (m : Shown) → m.offset ≡ target → m ≡ record { wall = wall_at target (instant m); offset = target }
moment_is target m same =
    let wall : m.wall ≡ wall_at target (instant m) = omega (arith, signed, same) in
    ap (λ (w : ℤ). record { wall = w; offset = m.offset }) wall ∙ ap (λ (o : ℤ). record { wall = wall_at target (instant m); offset = o }) same

text_is : (target : ℤ) (place : Result Shown Refusal) → ((m : Shown) → place ≡ Ok m → m.offset ≡ target) → HasNumber place → place_text place ≡ entry_text target (numbers_of place)
unfolding entry_text numbers_of
text_is target (Ok m) at h = ap moment_text (moment_is target m (at m refl) ∙ ap (λ (i : ℤ). record { wall = wall_at target i; offset = target }) (sym (both_parts (instant m))))
text_is target (Err refusal) at h = rw (some_number refusal) (fault_is refusal h)

-- the answer to a line and a line feed, or that it is too long
line_is : (setting : Setting) (line : List ℕ) (is_long : Bool) → HasNumber (place_of setting line)
    → answer_or_long (answer_to setting) is_long line ≡ entry_line setting.target (numbers_of (cond is_long (Err long) (place_of setting line)))
unfolding answer_or_long answer_to
line_is setting line true h = ap (λ (l : List ℕ). l ++ 10 ∷ []) (text_is setting.target (Err long) (λ m e. absurd cc) tt)
line_is setting line false h = ap (λ (l : List ℕ). l ++ 10 ∷ []) (text_is setting.target (place_of setting line) (shown_at_target setting line) h)

pub printed_line : (setting : Setting) (limit : ℕ) (line : List ℕ) → HasNumber (place_of setting line) → answered (answer_to setting) limit line ≡ entry_line setting.target (entry_of setting limit line)
unfolding answered entry_of
printed_line setting limit line h = line_is setting line (nat_lt limit (length line)) h

printed_lines : (setting : Setting) (limit : ℕ) (some : List (List ℕ)) → All (λ line. HasNumber (place_of setting line)) some
    → flat_map (answered (answer_to setting) limit) some ≡ flat_map (entry_line setting.target) (map (entry_of setting limit) some)
printed_lines setting limit [] h = refl
printed_lines setting limit (line ∷ others) h =
    let later : All (λ line. HasNumber (place_of setting line)) others = λ k d lt. h (suc k) d (omega arith) in
    ap (λ (l : List ℕ). l ++ flat_map (answered (answer_to setting) limit) others) (printed_line setting limit line (h 0 line (omega arith)))
    ∙ ap (λ (l : List ℕ). entry_line setting.target (entry_of setting limit line) ++ l) (printed_lines setting limit others later)

pub printed_output : (setting : Setting) (limit : ℕ) (input : List ℕ) → All (λ line. HasNumber (place_of setting line)) (lines input)
    → output (answer_to setting) limit input ≡ flat_map (entry_line setting.target) (map (entry_of setting limit) (lines input))
unfolding output
printed_output setting limit input h = printed_lines setting limit (lines input) h
