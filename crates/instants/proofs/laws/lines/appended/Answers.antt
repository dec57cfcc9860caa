use Rattle.std.proofs.Common.{Ok, Err, ◌∙◌, sym}
use Rattle.instants.specs.Appended.{with_source}
use Rattle.instants.proofs.OneMore.{kept_moment, gained_moment, kept_fault, answer_of, long_stays}
use Rattle.instants.proofs.laws.lines.appended.Goals as goal

pub returns : goal.returns
returns c = record {
  kept = λ setting grammar line m e.
      answer_of (with_source setting grammar) line (Ok m) (kept_moment setting.assumed setting.sources grammar line m e) ∙ sym (answer_of setting line (Ok m) e);
  gained = λ setting grammar line f m e n.
      answer_of (with_source setting grammar) line (Ok m) (gained_moment setting.assumed setting.sources grammar line f m e n);
  refused = λ setting grammar line f g some e n.
      answer_of (with_source setting grammar) line (Err f) (kept_fault setting.assumed setting.sources grammar line f g some e n) ∙ sym (answer_of setting line (Err f) e);
  long = λ setting grammar limit line h. long_stays setting grammar limit line h;
}
