use Rattle.std.proofs.Common.{Some, ap, ◌∙◌}
use Rattle.instants_c.proofs.line_calls.instants_lines_open.Goals as goal

pub returns-in-Ok-clause-ok : goal.returns-in-Ok-clause-ok
returns-in-Ok-clause-ok c = λ zero.
    (c.in-Ok.kept.value, ap (λ h. h.kept) c.replace.ensures.after ∙ c.of-in-Ok.ensures ∙ ap Some c.of.ensures, c.in-Ok.ensures.ok)
