use Rattle.std.proofs.Common.{[], ◌∷◌, ◌++◌, sym, ap, ◌∙◌, arith}
use Rattle.base.specs.Bytes.{line_feed}
use Rattle.instants.specs.Answered.{with_target}
use Rattle.instants.specs.FixedPoint.{alone}
use Rattle.instants_timeline.specs.Place.{answer_to}
use Rattle.instants.proofs.Reread.{again, answered_within}
use Rattle.instants.proofs.laws.lines.fixed_point.Goals as goal

pub returns : goal.returns
returns c = record {
  answer = λ setting grammar assumed target limit bound line m clock h short reads enough.
      let twice = again setting grammar assumed target line m clock h reads in
      answered_within (answer_to (alone grammar target assumed)) limit (answer_to setting line) (omega (arith, twice.1, enough))
      ∙ ap (λ text. text ++ line_feed ∷ []) twice.0
      ∙ sym (answered_within (answer_to (with_target setting target)) bound line short);
  itself = λ setting grammar assumed limit line m clock h reads enough.
      let twice = again setting grammar assumed setting.target line m clock h reads in
      answered_within (answer_to (alone grammar setting.target assumed)) limit (answer_to setting line) (omega (arith, twice.1, enough))
      ∙ ap (λ text. text ++ line_feed ∷ []) twice.0;
}
