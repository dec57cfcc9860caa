-- What is written for a long line is its text, as if the line had been looked at whole.
use Rattle.std.proofs.Common.{◌≡◌, ◌<◌, ◌≤◌, ◌+◌, ◌*◌, ◌/◌, ◌==◌, ℕ, nat_le, false, List, [], ◌∷◌, ◌++◌, length, take, drop, take-take, count_by, Option, Some, None, Result, Ok, Err, refl, sym, ap, subst, ◌∙◌, inl, inr, arith, append_assoc, append-nil, length-take-le, take-append-drop}
use Rattle.std.proofs.lemmas.Bool.{cases_lt}
use Rattle.std.proofs.lemmas.Bool.Decides.{nat_tests}
use Rattle.std.proofs.lemmas.List.{take-append-le, drop-append-le}
use Rattle.base.specs.Bytes.{tab, line_feed}
use Rattle.datetime_wall.specs.Wall.{Shown}
use Rattle.instants_answers.specs.Text.{moment_text}
use Rattle.instants_sources.specs.Grammar.{Grammar}
use Rattle.instants_found.specs.Doubts.{doubt_of}
use Rattle.instants_found.specs.Found.{found, found_in, looked_at}
use Rattle.instants_found.specs.declared.found.Found.{Found}
use Rattle.instants_found.specs.declared.found.Finding.{Finding}
use Rattle.instants_found.specs.declared.found.Finding.TheVariants.{Doubtful, There}
use Rattle.instants_found.proofs.NearFound.{found_near}
use Rattle.instants_stream.specs.Steps.{passed, state_within, opened, line_said, line_next}
use Rattle.instants_stream.proofs.Written.{line_said-longer, line_next-longer, line_said-short, line_next-short}
use Rattle.instants_timeline.specs.Place.{Setting}
use Rattle.instants_faults.specs.Refusal.{Refusal}
use Rattle.instants_fields.specs.Members.{longest}
use Rattle.instants_lines.specs.Parts.{PartSaid, place_of_part}
use Rattle.instants_lines.specs.Dates.{Search, date_by, date_in, doubt, found_by, place_of_date, with_date_time, with_date, replaced}
use Rattle.instants_lines.specs.Located.{doubts_from, finding_text, located, located_by}
use Rattle.instants_lines.specs.Going.{Going, below, depth, finding_in, is_explain, margin, key_of_line, keyed, label_prefix, text_in, near, hands_on, lines_steps}
use Rattle.instants_lines_words.specs.declared.mode.Mode.{Mode}
use Rattle.instants_lines_words.specs.declared.mode.Mode.TheVariants.{Key, Carry, Replace, Explain, Locate}

-- ---- a line with a date-time in place of its date

-- the date ends within the prefix
abbrev EndsIn : List ℕ → Option Finding → Type 0
EndsIn prefix o = (date : Found) → o ≡ Some (There date) → (date.start ≤ length prefix) × (date.end ≤ length prefix)

time_longer : (prefix rest : List ℕ) (date : Found) (place : Result Shown Refusal) → date.start ≤ length prefix → date.end ≤ length prefix → with_date_time prefix date place ++ rest ≡ with_date_time (prefix ++ rest) date place
time_longer prefix rest date (Ok moment) start end =
    rw (take-append-le date.start prefix rest start, drop-append-le date.end prefix rest end)
    (append_assoc (take date.start prefix) (moment_text moment ++ drop date.end prefix) rest ∙ ap (λ (l : List ℕ). take date.start prefix ++ l) (append_assoc (moment_text moment) (drop date.end prefix) rest))
time_longer prefix rest date (Err refusal) start end = refl

with_longer : (setting : Setting) (prefix rest : List ℕ) (o : Option Finding) → EndsIn prefix o → with_date setting prefix o ++ rest ≡ with_date setting (prefix ++ rest) o
with_longer setting prefix rest None lies = refl
with_longer setting prefix rest (Some (Doubtful place)) lies = refl
with_longer setting prefix rest (Some (There date)) lies = let both = lies date refl in time_longer prefix rest date (place_of_date setting date) both.0 both.1

-- ---- bytes that are not looked at

-- what is in doubt does not depend on them
module _ (search : Search) (one other : List ℕ) (same : looked_at search.limit one ≡ looked_at search.limit other) where
  same_found : found_by search one ≡ found_by search other
  unfolding found
  same_found = ap (found_in search.limit search.given search.setting.sources) same

  same_doubts : (place number : ℕ) (sources : List Grammar) → doubts_from search 0 one place number sources ≡ doubts_from search 0 other place number sources
  unfolding doubts_from doubt_of
  same_doubts place number [] = refl
  same_doubts place number (grammar ∷ others) = rw (same, same_doubts place (number + 1) others) refl

  same_finding_text : (o : Option Finding) → finding_text search 0 one o ≡ finding_text search 0 other o
  same_finding_text None = refl
  same_finding_text (Some (Doubtful place)) = ap (λ (text : List ℕ). doubt ++ text) (same_doubts place 0 search.setting.sources)
  same_finding_text (Some (There date)) = refl

  same_text_found : finding_text search 0 one (found_by search one) ≡ finding_text search 0 other (found_by search other)
  same_text_found = same_finding_text (found_by search one) ∙ ap (finding_text search 0 other) same_found

-- the first bytes of a line say what is found in it
record Decides (search : Search) (prefix line : List ℕ) : Type 0 where
  date : date_in search prefix ≡ date_in search line
  where_found : located search prefix ≡ located search line
  ends : EndsIn prefix (date_in search prefix)

-- what is the same of whole lines
by_none : {A : Type 0} (part : Option PartSaid) → part ≡ None → (f g : Option PartSaid → A) → f None ≡ g None → f part ≡ g part
by_none None none f g same = same
by_none (Some part) none f g same = absurd cc

-- those that are looked at, of a whole line
whole_decides : (search : Search) (line : List ℕ) → search.part ≡ None → search.limit + 256 + 64 < length line → Decides search (take (search.limit + 256 + 64 + 1) line) line
unfolding located
whole_decides search line none longer =
    let many : ℕ = search.limit + 256 + 64 in
    let prefix : List ℕ = take (many + 1) line in
    let same : looked_at search.limit prefix ≡ looked_at search.limit line = take-take many (many + 1) line (omega arith) in
    record {
      date = by_none search.part none (date_by search prefix) (date_by search line) (same_found search prefix line same);
      where_found = by_none search.part none (located_by search prefix) (located_by search line) (same_text_found search prefix line same);
      ends = λ date e.
          let there : found_by search prefix ≡ Some (There date) = ap (date_by search prefix) (sym none) ∙ e in
          let near = found_near search.limit search.given search.setting.sources prefix date there in
          let long = length-take-le (many + 1) line (omega (arith, longer)) in
          (omega (arith, near.0, long), omega (arith, near.1, long));
    }

-- a line that is too long has no part
too_long : (part : PartSaid) (line : List ℕ) → longest < length line → place_of_part part line ≡ None
unfolding place_of_part
too_long part line longer =
    let test : nat_le (length line) longest ≡ false = grind (arith, nat_tests, longer) in
    rw test refl

part_decides : (search : Search) (part : PartSaid) (line : List ℕ) → search.part ≡ Some part → longest < length line → Decides search (take (longest + 1) line) line
unfolding located
part_decides search part line e longer =
    let prefix : List ℕ = take (longest + 1) line in
    let long : length prefix ≡ longest + 1 = length-take-le (longest + 1) line (omega (arith, longer)) in
    let none_here = too_long part prefix (omega (arith, long)) in
    let none_there = too_long part line longer in
    record {
      date = rw (e, none_here, none_there) refl;
      where_found = rw (e, none_here, none_there) refl;
      ends = λ date is. absurd (let none = rw (e, none_here) at is in cc);
    }

-- ---- how many these are

near_whole : (mode : Mode) (search : Search) → is_explain mode ≡ false → search.part ≡ None → near mode search ≡ search.limit + 256 + 64
near_whole mode search whole none = rw (none, whole) refl

near_part : (mode : Mode) (search : Search) (part : PartSaid) → search.part ≡ Some part → near mode search ≡ longest
near_part mode search part e = rw e refl

near_decides : (mode : Mode) (search : Search) (line : List ℕ) → is_explain mode ≡ false → near mode search < length line → Decides search (take (near mode search + 1) line) line
near_decides mode search line whole longer =
    let P : ℕ → Type 0 = λ many. many < length line → Decides search (take (many + 1) line) line in
    elim search.part as (λ part. search.part ≡ part → Decides search (take (near mode search + 1) line) line) [
      | None ↦ λ none. subst P (sym (near_whole mode search whole none)) (whole_decides search line none) longer
      | Some part ↦ λ e. subst P (sym (near_part mode search part e)) (part_decides search part line e) longer
    ] refl

-- white space is among them
near_enough : (mode : Mode) (search : Search) → is_explain mode ≡ false → 256 ≤ near mode search
near_enough mode search whole =
    elim search.part as (λ part. search.part ≡ part → 256 ≤ near mode search) [
      | None ↦ λ none. omega (arith, near_whole mode search whole none)
      | Some part ↦ λ e. omega (arith, near_part mode search part e)
    ] refl

-- ---- a line that is longer

module _ (going : Going) (line : List ℕ) (whole : is_explain going.mode ≡ false) (longer : near going.mode going.search < length line) where
  abbrev many : ℕ
  many = near going.mode going.search

  abbrev prefix : List ℕ
  prefix = take (many + 1) line

  abbrev rest : List ℕ
  rest = drop (many + 1) line

  joined : prefix ++ rest ≡ line
  joined = take-append-drop (many + 1) line

  decides : Decides going.search prefix line
  decides = near_decides going.mode going.search line whole longer

  same_depth : depth prefix ≡ depth line
  unfolding depth
  same_depth =
      let enough : 256 ≤ many + 1 = omega (arith, near_enough going.mode going.search whole) in
      ap (λ (bytes : List ℕ). (length (margin bytes) + 7 * count_by (λ byte. byte == tab) (margin bytes)) / 2) (take-take 256 (many + 1) line enough)

  same_finding : finding_in going prefix ≡ finding_in going line
  same_finding = rw (same_depth, decides.date) refl

  same_below : below going prefix ≡ below going line
  same_below = rw (same_finding, same_depth) refl

  same_keyed : keyed going prefix ++ rest ≡ keyed going line
  same_keyed =
      rw same_finding (append_assoc (key_of_line going line) (tab ∷ (label_prefix going.label ++ prefix)) rest
      ∙ ap (λ (l : List ℕ). key_of_line going line ++ tab ∷ l) (append_assoc (label_prefix going.label) prefix rest ∙ ap (λ (l : List ℕ). label_prefix going.label ++ l) joined))

  same_replaced : replaced going.search prefix ++ rest ≡ replaced going.search line
  unfolding replaced
  same_replaced =
      with_longer going.search.setting prefix rest (date_in going.search prefix) decides.ends
      ∙ rw (joined, decides.date) refl

  same_text : (mode : Mode) → is_explain mode ≡ false → text_in mode going prefix ++ passed (hands_on mode) rest ≡ text_in mode going line
  same_text Key own = same_keyed
  same_text Carry own = same_keyed
  same_text Replace own = same_replaced
  same_text Explain own = absurd cc
  same_text Locate own = append-nil _ ∙ decides.where_found

  pub opened_is : opened lines_steps many going line ≡ text_in going.mode going line
  unfolding opened state_within
  opened_is = rw whole (same_text going.mode whole)

  said_longer : line_said lines_steps many going line ≡ text_in going.mode going line ++ line_feed ∷ []
  unfolding state_within
  said_longer = line_said-longer Going lines_steps many going line longer ∙ rw (opened_is, whole, whole) refl

  next_longer : line_next lines_steps many going line ≡ below going line
  unfolding state_within
  next_longer = line_next-longer Going lines_steps many going line longer ∙ rw whole same_below

-- ---- a line of any length

pub handed_said : (going : Going) (line : List ℕ) → is_explain going.mode ≡ false → line_said lines_steps (near going.mode going.search) going line ≡ text_in going.mode going line ++ line_feed ∷ []
handed_said going line whole =
    elim (cases_lt (near going.mode going.search) (length line)) [
      | inl longer ↦ said_longer going line whole longer
      | inr fits ↦ line_said-short Going lines_steps (near going.mode going.search) going line fits
    ]

pub handed_next : (going : Going) (line : List ℕ) → is_explain going.mode ≡ false → line_next lines_steps (near going.mode going.search) going line ≡ below going line
handed_next going line whole =
    elim (cases_lt (near going.mode going.search) (length line)) [
      | inl longer ↦ next_longer going line whole longer
      | inr fits ↦ line_next-short Going lines_steps (near going.mode going.search) going line fits ∙ rw whole refl
    ]
