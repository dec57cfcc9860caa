use Rattle.std.proofs.Common.{◌≡◌, ◌∙◌, ◌||◌, ◌+◌, ℕ, Bool, true, sym, ap, arith, to_z, of_z, w64}
use Rattle.std.proofs.lemmas.Int.{ints}
use Rattle.instants_edges.specs.Beside.{is_any}
use Rattle.instants_edges.proofs.Anywhere.{any_more}
use Rattle.instants_found.specs.Zoned.{has_other_name}
use Rattle.instants_found.proofs.zoned.has_other_inside.Goals as goal

pub returns-then-has_other_name : goal.returns-then-has_other_name
returns-then-has_other_name c =
    let place = c.loop-place.place in
    let ends = c.args.ends in
    let same : to_z w64 (of_z w64 c.args.moment) ≡ c.args.moment = omega (arith, ints) in
    let other : ℕ → Bool = has_other_name c.args.zone.now c.args.line.now c.args.moment in
    let here : other place ≡ true = rw same at (sym c.has_other_name.ensures ∙ c.if-has_other_name.true) in
    let more : is_any other place ends ≡ true = any_more other place ends (omega arith) ∙ ap (λ (b : Bool). b || is_any other (place + 1) ends) here in
    let so_far : is_any other place ends ≡ is_any other c.args.start ends = rw same at c.loop-place.invariant in
    sym (sym so_far ∙ more)
