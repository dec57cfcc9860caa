use Rattle.std.proofs.Common.{◌≡◌, ℕ, List, false, Option, Result, None, Some, Ok, Err, map, refl, sym, subst, ap, ◌∙◌}
use Rattle.std.specs.Prelude.{is_some}
use Rattle.std.specs.Borrow.{Bor}
use Rattle.zones_clock.specs.declared.zone.Zone.{Zone}
use Rattle.instants_words.specs.Words.{words_said}
use Rattle.instants_timeline.specs.Settings.{setting_of}
use Rattle.instants_lines_words.specs.Asked.{asking_of}
use Rattle.instants_lines.specs.Asked.{begins_by, zone_asked, zone_lacking}
use Rattle.instants_lines.specs.Dates.{Search}
use Rattle.instants_lines.specs.Going.{Going, beginning}
use Rattle.instants_lines.specs.Lacking.{lacking_in}
use Rattle.instants_lines.specs.Program.{AsksFor}
use Rattle.instants_lines.specs.Showing.{given_of, search_in}
use Rattle.instants_lines.proofs.Saying.{asks_so, same_search, still_there}
use Rattle.instants_lines.proofs.open_lines.OpenLines.of_words.Goals as goal
use Rattle.instants_lines.proofs.open_lines.OpenLines.of_words.Goals.{In_ok-dates}

module _ (c : In_ok-dates) (there : Option (Bor Zone)) (alike : is_some there ≡ is_some c.args.zone) where
  abbrev words : List (List ℕ)
  words = map (λ word. word.now) c.args.words.now

  abbrev begins : Going
  begins = begins_by (asking_of c.in_ok-asked.asked) there (setting_of c.in_ok-timeline.timeline) c.in_ok-timeline.limit

  -- what the words ask for
  asked_for : AsksFor words there begins
  asked_for =
      let right = c.in_ok-asked.ensures.ok in
      let theirs : words_said (map (λ word. word.now) c.as_slice.result.now) ≡ Ok right.0 = rw c.as_slice.ensures.value right.1 in
      asks_so words (map (λ word. word.now) c.as_slice.result.now) (asking_of c.in_ok-asked.asked) right.0 theirs right.2 there (still_there (asking_of c.in_ok-asked.asked).zone there c.args.zone alike (sym c.in_default.ensures)) (setting_of c.in_ok-timeline.timeline) c.in_ok-timeline.limit c.in_ok-timeline.ensures.asks

  -- by what dates are looked for
  searched : search_in c.in_ok-dates.dates (given_of c.known_by-known.result (zone_asked (asking_of c.in_ok-asked.asked).zone there)) ≡ begins.search
  searched =
      same_search (asking_of c.in_ok-asked.asked) there (setting_of c.in_ok-timeline.timeline) c.in_ok-timeline.limit c.in_ok-dates.dates (given_of c.known_by-known.result (zone_asked (asking_of c.in_ok-asked.asked).zone there)) c.in_ok-dates.ensures.setting c.in_ok-dates.ensures.part c.in_ok-dates.ensures.limit
      (c.known_by-known.ensures (setting_of c.in_ok-timeline.timeline) there (sym c.assumed.ensures))

pub returns-in-Some-lacking-clause-lacks : goal.returns-in-Some-lacking-clause-lacks
returns-in-Some-lacking-clause-lacks c = λ lacking e.
    let at = (goal.at.returns-in-Some-lacking-clause-lacks c).In_ok-dates in
    let same : c.in-Some-lacking.lacking ≡ lacking = cc in
    (_, asked_for at c.args.zone refl, ap lacking_in (sym (searched at c.args.zone refl)) ∙ sym c.in-Some-lacking.ensures ∙ ap Some same)

pub returns-clause-asks : goal.returns-clause-asks
returns-clause-asks c = λ there alike.
    let at = (goal.at.returns-clause-asks c).In_ok-dates in
    let asking = asking_of c.in_ok-asked.asked in
    subst (λ (search : Search). AsksFor (words at there alike) there (beginning asking.mode asking.label search)) (sym (searched at there alike)) (asked_for at there alike)

pub returns-clause-names : goal.returns-clause-names
returns-clause-names c = sym c.in_default-lacking.ensures
