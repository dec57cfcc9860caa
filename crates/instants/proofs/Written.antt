-- Where the answer to a line stands in what is written for a stream.
use Rattle.std.proofs.Common.{◌≡◌, ℕ, List, [], ◌∷◌, ◌++◌, refl, ap, ◌∙◌}
use Rattle.std.proofs.lemmas.Grind.{flat_map-append}
use Rattle.base.specs.Bytes.{line_feed}
use Rattle.datetime_wall.specs.Wall.{Shown}
use Rattle.instants_stream.specs.Answers.{answered, output}
use Rattle.instants.specs.Output.{IsAnsweredIn, written}
use Rattle.instants_timeline.specs.Place.{Setting, answer_to}
use Rattle.instants.proofs.Reread.{answered_within}

pub stands_in : (setting : Setting) (limit : ℕ) (stream line : List ℕ) (before after : List (List ℕ)) (m : Shown) → IsAnsweredIn setting limit stream before line after m
    → output (answer_to setting) limit stream ≡ written setting limit before ++ ((answer_to setting line ++ line_feed ∷ []) ++ written setting limit after)
unfolding output
stands_in setting limit stream line before after m h =
    let own = answered_within (answer_to setting) limit line h.within in
    ap (λ all. written setting limit all) h.stands
    ∙ flat_map-append (answered (answer_to setting) limit) before (line ∷ after)
    ∙ rw own refl
