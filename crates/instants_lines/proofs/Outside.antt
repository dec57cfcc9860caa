-- What stands beside a date that is replaced.
use Rattle.std.proofs.Common.{◌≡◌, ℕ, ◌+◌, ◌≤◌, List, ◌++◌, length, take, drop, None, Some, Ok, Err, refl, sym, ap, ◌∙◌, arith, append_assoc, length-append}
use Rattle.std.proofs.lemmas.List.{length-take-le, take_at, drop_at}
use Rattle.datetime_wall.specs.Wall.{Shown, instant, shown_at}
use Rattle.instants_answers.specs.Text.{moment_text}
use Rattle.instants_found.specs.declared.found.Found.{Found}
use Rattle.instants_found.specs.declared.found.Finding.TheVariants.{Doubtful, There}
use Rattle.instants_faults.specs.Refusal.{Refusal}
use Rattle.instants_timeline.specs.Place.{Setting, in_written_years}
use Rattle.instants_lines.specs.Dates.{Search, date_in, place_of_date, with_date, with_date_time, replaced}

pub replaced_date : (search : Search) (line : List ℕ) (date : Found) → date_in search line ≡ Some (There date) → replaced search line ≡ with_date_time line date (place_of_date search.setting date)
unfolding replaced
replaced_date search line date e = ap (with_date search.setting line) e

pub written : (search : Search) (line : List ℕ) (date : Found) (moment : Shown) → date_in search line ≡ Some (There date) → place_of_date search.setting date ≡ Ok moment
    → replaced search line ≡ take date.start line ++ (moment_text moment ++ drop date.end line)
written search line date moment e p = replaced_date search line date e ∙ ap (with_date_time line date) p

pub unwritten : (search : Search) (line : List ℕ) (date : Found) (refusal : Refusal) → date_in search line ≡ Some (There date) → place_of_date search.setting date ≡ Err refusal → replaced search line ≡ line
unwritten search line date refusal e p = replaced_date search line date e ∙ ap (with_date_time line date) p

pub undated : (search : Search) (line : List ℕ) → date_in search line ≡ None → replaced search line ≡ line
unfolding replaced
undated search line e = ap (with_date search.setting line) e

pub doubtful : (search : Search) (line : List ℕ) (place : ℕ) → date_in search line ≡ Some (Doubtful place) → replaced search line ≡ line
unfolding replaced
doubtful search line place e = ap (with_date search.setting line) e

-- dates of one instant have one place
same_place : (setting : Setting) (date again : Found) → instant again.moment ≡ instant date.moment → place_of_date setting again ≡ place_of_date setting date
unfolding place_of_date
same_place setting date again e = ap (λ i. in_written_years (shown_at setting.target i)) e

pub twice : (search below : Search) (line : List ℕ) (date again : Found) (moment : Shown) → below.setting ≡ search.setting → date_in search line ≡ Some (There date) → place_of_date search.setting date ≡ Ok moment → date.start ≤ length line
    → date_in below (replaced search line) ≡ Some (There again) → again.start ≡ date.start → again.end ≡ date.start + length (moment_text moment) → instant again.moment ≡ instant date.moment
    → replaced below (replaced search line) ≡ replaced search line
twice search below line date again moment one e p within f starts ends same =
    let text = moment_text moment in
    let prefix = take date.start line in
    let back = drop date.end line in
    let size : length prefix ≡ date.start = length-take-le date.start line within in
    let is : replaced search line ≡ prefix ++ (text ++ back) = written search line date moment e p in
    let before : take date.start (prefix ++ (text ++ back)) ≡ prefix = take_at prefix (text ++ back) date.start size in
    let whole : length (prefix ++ text) ≡ date.start + length text = simp length-append (omega (arith, size)) in
    let after : drop (date.start + length text) (prefix ++ (text ++ back)) ≡ back =
    ap (drop (date.start + length text)) (sym (append_assoc prefix text back)) ∙ drop_at (prefix ++ text) back (date.start + length text) whole in
    written below (replaced search line) again moment f (ap (λ (setting : Setting). place_of_date setting again) one ∙ same_place search.setting date again same ∙ p)
    ∙ rw (starts, ends, is) (rw (before, after) refl)
