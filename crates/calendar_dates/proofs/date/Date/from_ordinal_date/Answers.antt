use Rattle.std.proofs.Common.{rules, ◌≡◌, to_z, of_z, w32, to_z-of_z}
use Rattle.calendar_count.specs.Place.{IsPlace}
use Rattle.calendar_count.proofs.lemmas.Places.{place-year, place-ordinal}
use Rattle.calendar_dates.proofs.date.Date.from_ordinal_date.Goals as goal

pub returns-clause-value : goal.returns-clause-value
returns-clause-value c =
    let back : to_z w32 (of_z w32 c.args.year) ≡ c.args.year = to_z-of_z c.ranges.year in
    let place : IsPlace c.args.year c.args.ordinal = search rules in
    rw (c.at_place.ensures, back) (place-year _ _ place, place-ordinal _ _ place)
