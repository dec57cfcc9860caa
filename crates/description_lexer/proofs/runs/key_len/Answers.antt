use Rattle.std.proofs.Common.{ap, ◌∙◌}
use Rattle.std.specs.List.{prefix_len}
use Rattle.description_lexer.specs.Text.{is_no_colon}
use Rattle.description_lexer.proofs.Cuts.{colon_cut, past_colon}
use Rattle.description_lexer.proofs.runs.key_len.Goals as goal

pub returns-clause-boundary : goal.returns-clause-boundary
returns-clause-boundary c = rw (c.colon_len.ensures, c.as_bytes.ensures.value) (colon_cut _)

pub returns-clause-past : goal.returns-clause-past
returns-clause-past c = past_colon c.args.text.now _ (c.colon_len.ensures ∙ ap (prefix_len is_no_colon) c.as_bytes.ensures.value) c.utf8.text
