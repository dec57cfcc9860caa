use Rattle.std.proofs.Common.{◌≡◌, sym, ◌∙◌}
use Rattle.datetime_wall.specs.Wall.{instant}
use Rattle.datetime.proofs.LawLemmas.{instant_of_shown}
use Rattle.datetime.proofs.laws.shown_by_way_of.Goals as goal

pub returns-clause-value : goal.returns-clause-value
returns-clause-value c =
    let same : instant c.in-Some.shown ≡ instant c.args.moment = instant_of_shown c.args.way (instant c.args.moment) c.in-Some.shown (sym c.checked_to_offset.ensures.value ∙ c.in-Some.is) in
    rw (← same) c.checked_to_offset-2.ensures.value
