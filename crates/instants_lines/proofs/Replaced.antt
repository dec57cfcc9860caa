-- Where dates are replaced lines stay lines.
use Rattle.std.proofs.Common.{◌≡◌, ◌<◌, ◌==◌, ℕ, suc, true, false, List, [], ◌∷◌, ◌++◌, length, take, drop, Option, None, Some, Result, Ok, Err, refl, ap, ◌∙◌, inl, inr, arith, append-nil, length-append}
use Rattle.std.specs.Prelude.{◌↔◌, if◌then◌else◌}
use Rattle.std.proofs.lemmas.Bool.{cases_lt}
use Rattle.std.proofs.lemmas.List.Elements.{All-append, All-take, All-drop}
use Rattle.base.specs.Bytes.{line_feed}
use Rattle.datetime_wall.specs.Wall.{Shown}
use Rattle.instants_answers.specs.Text.{moment_text}
use Rattle.instants_faults.specs.Refusal.{Refusal}
use Rattle.instants_found.specs.declared.found.Found.{Found}
use Rattle.instants_found.specs.declared.found.Finding.{Finding}
use Rattle.instants_found.specs.declared.found.Finding.TheVariants.{Doubtful, There}
use Rattle.instants_stream.specs.Lines.{HasNoLineFeed, whole_lines, last_part}
use Rattle.instants_stream.specs.Steps.{if_any, state_within, written, after, last_part_said, output}
use Rattle.instants_stream.proofs.Lines.{whole_lines-line, last_part-line, last_part-piece, whole_lines-piece, last_part-append, whole_lines-append, whole_lines_none, last_part_of_none, last_part_free}
use Rattle.instants_stream.proofs.Written.{is_longer, is_no_longer}
use Rattle.instants_timeline.specs.Place.{Setting}
use Rattle.instants_lines.specs.Dates.{Search, date_in, place_of_date, with_date_time, with_date, replaced}
use Rattle.instants_lines.specs.Going.{Going, below, is_explain, near, text_in, lines_steps}
use Rattle.instants_lines_words.specs.declared.mode.Mode.{Mode}
use Rattle.instants_lines_words.specs.declared.mode.Mode.TheVariants.{Replace}
use Rattle.instants_lines.proofs.Fields.{field_free, moment_field}
use Rattle.instants_lines.proofs.Handed.{handed_said, handed_next, opened_is}
use Rattle.instants_lines.proofs.States.{after_lines}
use Rattle.instants_lines.proofs.WithoutKeys.{Frees, whole_free}

-- ---- a line

-- a text for a line has no line feed, and is empty only where the line is
abbrev IsLineFor : List ℕ → List ℕ → Type 0
IsLineFor line text = HasNoLineFeed text × (0 < length line → 0 < length text)

some_text : (moment : Shown) → 0 < length (moment_text moment)
unfolding moment_text
some_text moment = simp length-append (omega arith)

time_stays : (line : List ℕ) (date : Found) (place : Result Shown Refusal) → HasNoLineFeed line → IsLineFor line (with_date_time line date place)
time_stays line date (Ok moment) free =
    let P : ℕ → Type 0 = λ b. (b == 10) ≡ false in
    let after = All-append P (moment_text moment) (drop date.end line) (field_free (moment_text moment) (moment_field moment)) (All-drop P date.end line free) in
    (All-append P (take date.start line) (moment_text moment ++ drop date.end line) (All-take P date.start line free) after, λ some. simp length-append (omega (arith, some_text moment)))
time_stays line date (Err refusal) free = (free, λ some. some)

date_stays : (setting : Setting) (line : List ℕ) (o : Option Finding) → HasNoLineFeed line → IsLineFor line (with_date setting line o)
date_stays setting line None free = (free, λ some. some)
date_stays setting line (Some (Doubtful place)) free = (free, λ some. some)
date_stays setting line (Some (There date)) free = time_stays line date (place_of_date setting date) free

line_stays : (search : Search) (line : List ℕ) → HasNoLineFeed line → IsLineFor line (replaced search line)
unfolding replaced
line_stays search line free = date_stays search.setting line (date_in search line) free

-- ---- a stream

text_of : (going : Going) (line : List ℕ) → going.mode ≡ Replace → text_in going.mode going line ≡ replaced going.search line
text_of going line e = ap (λ (mode : Mode). text_in mode going line) e

-- as many whole lines are written as there are, and nothing after them
written_whole : (going : Going) (some : List (List ℕ)) → going.mode ≡ Replace → Frees some
    → (last_part (written lines_steps (near going.mode going.search) going some) ≡ []) × (length (whole_lines (written lines_steps (near going.mode going.search) going some)) ≡ length some)
unfolding written
written_whole going [] e free = (last_part_of_none, ap length whole_lines_none)
written_whole going (line ∷ others) e free =
    let whole = ap is_explain e in
    let text = replaced going.search line in
    let text_free = (line_stays going.search line free.0).0 in
    let end : last_part (text ++ line_feed ∷ []) ≡ [] = last_part-line [] text text_free in
    let first : whole_lines (text ++ line_feed ∷ []) ≡ text ∷ [] = whole_lines-line [] text text_free ∙ rw (whole_lines_none, last_part_of_none) refl in
    let rest = written_whole (below going line) others e free.1 in
    let more = written lines_steps (near going.mode going.search) (below going line) others in
    rw (handed_said going line whole, handed_next going line whole, text_of going line e) (
      last_part-append (text ++ line_feed ∷ []) more end ∙ rest.0,
      ap length (whole_lines-append (text ++ line_feed ∷ []) more end ∙ ap (λ (ls : List (List ℕ)). ls ++ whole_lines more) first) ∙ ap suc rest.1,
    )

-- the last line, which has no line feed, gets none
last_is : (going : Going) (part : List ℕ) → going.mode ≡ Replace → last_part_said lines_steps (near going.mode going.search) going part ≡ if_any part (replaced going.search part)
unfolding last_part_said state_within
last_is going [] e = rw (is_no_longer (near going.mode going.search) 0 (omega arith)) refl
last_is going (byte ∷ bytes) e =
    elim (cases_lt (near going.mode going.search) (length (byte ∷ bytes))) [
      | inl longer ↦ rw (is_longer _ _ longer, opened_is going (byte ∷ bytes) (ap is_explain e) longer, text_of going (byte ∷ bytes) e, e) (append-nil _)
      | inr fits ↦ rw (is_no_longer _ _ fits, text_of going (byte ∷ bytes) e, e) (append-nil _)
    ]

part_stays : (search : Search) (part : List ℕ) → HasNoLineFeed part → HasNoLineFeed (if_any part (replaced search part)) × ((if_any part (replaced search part) ≡ []) ↔ (part ≡ []))
part_stays search [] free = (free, (λ e. refl, λ e. refl))
part_stays search (byte ∷ bytes) free =
    let stays = line_stays search (byte ∷ bytes) free in
    (stays.0, (λ none. absurd (omega (arith, stays.1 (omega arith), ap length none)), λ none. absurd cc))

pub lines_stay : (going : Going) (stream : List ℕ) → going.mode ≡ Replace → (let text = output lines_steps going (near going.mode going.search) stream in (length (whole_lines text) ≡ length (whole_lines stream)) × ((last_part text ≡ []) ↔ (last_part stream ≡ [])))
unfolding output
lines_stay going stream e =
    let many = near going.mode going.search in
    let later = after lines_steps many going (whole_lines stream) in
    let P : Going → Type 0 = λ one. (one.mode ≡ Replace) × (near one.mode one.search ≡ near going.mode going.search) in
    let kept = after_lines P (λ one line p. elim (is_explain one.mode) as (λ explains. P (if explains then one else below one line)) [ true ↦ p | false ↦ p ]) many going (whole_lines stream) (e, refl) in
    let last = rw kept.1 at (last_is later (last_part stream) kept.0) in
    let whole = written_whole going (whole_lines stream) e (whole_free stream) in
    let text = written lines_steps many going (whole_lines stream) in
    let part = if_any (last_part stream) (replaced later.search (last_part stream)) in
    let stays = part_stays later.search (last_part stream) (last_part_free stream) in
    let end : last_part (text ++ part) ≡ part = last_part-append text part whole.0 ∙ last_part-piece [] part stays.0 ∙ ap (λ (l : List ℕ). l ++ part) last_part_of_none in
    rw last (
      ap length (whole_lines-append text part whole.0 ∙ ap (λ (ls : List (List ℕ)). whole_lines text ++ ls) (whole_lines-piece [] part stays.0 ∙ whole_lines_none) ∙ append-nil _) ∙ whole.1,
      rw end stays.1,
    )
