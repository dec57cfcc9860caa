use Rattle.datetime_wall.specs.Wall.{instant}
use Rattle.instants_answers.proofs.Compares.{same_when, int_cmp-equal}
use Rattle.instants_answers.proofs.Lines.{line_field}
use Rattle.instants_answers.proofs.laws.order_of_lines.Goals as goal

pub returns : goal.returns
returns c = record {
  order = λ a b h g e. (line_field a b h g e).gives;
  equality = λ a b h g e.
      let lines = same_when _ _ _ (line_field a b h g e) in
      let instants = int_cmp-equal (instant a) (instant b) in
      (λ same. instants.0 (lines.1 same), λ same. lines.0 (instants.1 same));
}
